-- Join at one key: what the shares of one side's rows are apart, times the norm of the other side, is at most what the rows are.
use Rattle.std.specs.List.{AllByRecursion}
use Rattle.std.specs.Prelude.{ℕ, zero, suc, ◌+◌, ◌*◌, ◌<◌, ◌≤◌, ◌≡◌, ℤ, pos, ◌-ℤ◌, ◌*ℤ◌, ◌≤ℤ◌, unsigned_abs, List, [], ◌∷◌, map, sum_by, refl}
use Rattle.std.proofs.Common.{sym, ap, subst, ◌∙◌, arith, mul-pos}
use Rattle.std.proofs.Math.Nat.{dvd-mul_left}
use Rattle.std.proofs.lemmas.Int.{ints}
use Rattle.std.proofs.lemmas.List.Sums.{sum_by-cons}
use Rattle.ratios.specs.Ratio.{Ratio, ratio_abs, ratio_add, ratio_div, ratio_mul, ratio_sub, zero_ratio}
use Rattle.ratios.proofs.Field.{abs_nonneg, mul_comm, same_then}
use Rattle.ratios.proofs.Linear.{abs, add, at_denominator, le_of, mul, nil, same_of, sub, ◌⊑◌}
use Rattle.ratios.proofs.Over.{IsOver, over_as, over_scaled}
use Rattle.ratios.proofs.Parts.{over_zero}
use Rattle.ratios.proofs.Products.{ratio_mul_zero}
use Rattle.ratios.proofs.Quotients.{div, natural}
use Rattle.ratios.proofs.Scale.{AllDivide, AllDivide-common_denominator, AllDivide-mul, at_scale, common_denominator, common_denominator_positive, over_scale}
use Rattle.ratios.proofs.Totals.{total, total-cons, total-mul, total-nonneg, total-same, total-zero}
use Rattle.datasets.proofs.Members.{AllByRecursion-weaker}
use Rattle.stability_laws.proofs.Crossed.{crossed, crossed_short, gaps, size}

-- ---- sums over one denominator

over_total : {X : Type 0} (d : ℕ) → 0 < d → (z : X → ℕ) (f : X → Ratio) (xs : List X) → AllByRecursion (λ x. IsOver (pos (z x)) d (f x)) xs → IsOver (pos (sum_by z xs)) d (total f xs)
over_total d p z f [] h = over_zero d p
over_total d p z f (x ∷ xs) h =
    subst (IsOver (pos (sum_by z (x ∷ xs))) d) (sym (total-cons f x xs)) (over_as _ _ _ _ (add h.0 (over_total d p z f xs h.1)) (ap pos (sym (sum_by-cons z x xs))))

-- ---- two worlds

-- how far the shares of x in s and in t are apart
abbrev share_apart : {X : Type 0} → (X → Ratio) → (X → Ratio) → Ratio → Ratio → X → Ratio
share_apart a c s t x = ratio_abs (ratio_sub (ratio_div (a x) s) (ratio_div (c x) t))

-- the same, times b
abbrev pub times_apart : {X : Type 0} → (X → Ratio) → (X → Ratio) → Ratio → Ratio → Ratio → X → Ratio
times_apart a c s t b x = ratio_mul (share_apart a c s t x) b

module _ {X : Type 0} (a c : X → Ratio) (xs : List X) where
  -- the norms, and how far the worlds are apart
  abbrev first_norm : Ratio
  first_norm = total (λ x. ratio_abs (a x)) xs

  abbrev second_norm : Ratio
  second_norm = total (λ x. ratio_abs (c x)) xs

  abbrev all_apart : Ratio
  all_apart = total (λ x. ratio_abs (ratio_sub (a x) (c x))) xs

  abbrev pub KeyIsStable : Ratio → Type 0
  KeyIsStable b = total (times_apart a c (ratio_add first_norm b) (ratio_add second_norm b) b) xs ⊑ all_apart

  -- the weights over d
  module _ (d : ℕ) (some : 0 < d) (u v : X → ℤ) (all : AllByRecursion (λ x. IsOver (u x) d (a x) × IsOver (v x) d (c x)) xs) where
    abbrev AtBoth : X → Type 0
    AtBoth x = IsOver (u x) d (a x) × IsOver (v x) d (c x)

    over_first : IsOver (pos (size u xs)) d first_norm
    over_first = over_total d some _ _ xs (AllByRecursion-weaker AtBoth (λ x. IsOver (pos (unsigned_abs (u x))) d (ratio_abs (a x))) xs (λ x h. abs h.0) all)

    over_second : IsOver (pos (size v xs)) d second_norm
    over_second = over_total d some _ _ xs (AllByRecursion-weaker AtBoth (λ x. IsOver (pos (unsigned_abs (v x))) d (ratio_abs (c x))) xs (λ x h. abs h.1) all)

    over_all_apart : IsOver (pos (gaps u v xs)) d all_apart
    over_all_apart = over_total d some _ _ xs (AllByRecursion-weaker AtBoth (λ x. IsOver (pos (unsigned_abs (u x -ℤ v x))) d (ratio_abs (ratio_sub (a x) (c x)))) xs (λ x h. abs (sub h.0 h.1)) all)

    -- the shares in s = p / d and in t = q / d
    over_shares : (p q : ℕ) (s t : Ratio) → 0 < p → 0 < q → IsOver (pos p) d s → IsOver (pos q) d t →
        IsOver (pos (crossed u v p q xs)) (p * q) (total (share_apart a c s t) xs)
    over_shares p q s t hp hq os ot =
        let e : q * p ≡ p * q = omega arith in
        over_total (p * q) (mul-pos hp hq) _ _ xs
        (AllByRecursion-weaker AtBoth (λ x. IsOver (pos (unsigned_abs (u x *ℤ pos q -ℤ v x *ℤ pos p))) (p * q) (share_apart a c s t x)) xs
        (λ x h. abs (sub (over_scaled (u x) p q _ hq (div hp h.0 os)) (at_denominator e (over_scaled (v x) q p _ hp (div hq h.1 ot))))) all)

    whole_le : (m n : ℕ) → m ≤ n → pos m ≤ℤ pos n
    whole_le m n h = omega (arith, ints)

    stable_over : (b : Ratio) (n : ℕ) → IsOver (pos n) d b → KeyIsStable b
    stable_over b zero o =
        let s = ratio_add first_norm b in
        let t = ratio_add second_norm b in
        same_then (total-zero (times_apart a c s t b) xs (λ x. ap (ratio_mul (share_apart a c s t x)) (same_of o (nil o) refl) ∙ ratio_mul_zero (share_apart a c s t x)))
        (total-nonneg (λ x. ratio_abs (ratio_sub (a x) (c x))) xs (λ x. abs_nonneg (ratio_sub (a x) (c x))))
    stable_over b (suc n) o =
        let s = ratio_add first_norm b in
        let t = ratio_add second_norm b in
        let p = size u xs + suc n in
        let q = size v xs + suc n in
        let hp : 0 < p = omega arith in
        let hq : 0 < q = omega arith in
        let left = mul o (over_shares p q s t hp hq (add over_first o) (add over_second o)) in
        let right = over_scaled (pos (gaps u v xs)) d (p * q) all_apart (mul-pos hp hq) over_all_apart in
        let short = crossed_short u v (suc n) xs in
        same_then (total-same (times_apart a c s t b) (λ x. ratio_mul b (share_apart a c s t x)) xs (λ x. mul_comm (share_apart a c s t x) b) ∙ total-mul b (share_apart a c s t) xs)
        (le_of left right (whole_le (suc n * crossed u v p q xs) (gaps u v xs * (p * q)) (omega (arith, short))))

-- ---- a common denominator

over_both : {X : Type 0} (d : ℕ) → 0 < d → (a c : X → Ratio) (xs : List X) → AllDivide d (map a xs) → AllDivide d (map c xs) →
    AllByRecursion (λ x. IsOver (at_scale d (a x)) d (a x) × IsOver (at_scale d (c x)) d (c x)) xs
over_both d p a c [] h k = tt
over_both d p a c (x ∷ xs) h k = ((over_scale d (a x) p h.0, over_scale d (c x) p k.0), over_both d p a c xs h.1 k.1)

-- a and c are the weights of one side in two worlds, and b is the norm of the other side
pub key_stable : {X : Type 0} (a c : X → Ratio) (xs : List X) (b : Ratio) → zero_ratio ⊑ b → KeyIsStable a c xs b
key_stable a c xs b h =
    let m = common_denominator (map a xs) in
    let n = common_denominator (map c xs) in
    let d = (m * n) * b.den in
    let some : 0 < d = mul-pos (mul-pos (common_denominator_positive (map a xs)) (common_denominator_positive (map c xs))) b.positive in
    let da : AllDivide d (map a xs) = subst (λ t. AllDivide t (map a xs)) (omega arith) (AllDivide-mul m (n * b.den) (map a xs) (AllDivide-common_denominator (map a xs))) in
    let dc : AllDivide d (map c xs) = subst (λ t. AllDivide t (map c xs)) (omega arith) (AllDivide-mul n (m * b.den) (map c xs) (AllDivide-common_denominator (map c xs))) in
    let k = natural h (over_scale d b some (dvd-mul_left b.den (m * n))) in
    stable_over a c xs d some (λ x. at_scale d (a x)) (λ x. at_scale d (c x)) (over_both d some a c xs da dc) b k.n k.over
