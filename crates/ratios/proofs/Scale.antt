-- Lists of ratios over one denominator: `at_scale d q` is the numerator of q over d, where the denominator of q divides d.
use Rattle.std.proofs.Common.{ℕ, ◌*◌, ◌/◌, ◌<◌, ◌≡◌, List, [], ◌∷◌, map, fold, ℤ, pos, ◌+ℤ◌, ◌*ℤ◌, ap, arith, mul-pos}
use Rattle.std.specs.Int.{◌∣◌}
use Rattle.std.proofs.lemmas.Int.{ints}
use Rattle.std.proofs.Math.Nat.{mul-div_cancel', dvd-mul_right, dvd-mul_left_of_dvd}
use borrow.Author.Differences.{up, down}
use Rattle.ratios.specs.Ratio.{Ratio, ratio_add}
use Rattle.ratios.proofs.Over.{IsOver, over_add, parts_cross}

abbrev pub at_scale : ℕ → Ratio → ℤ
at_scale d q = q.num *ℤ pos (d / q.den)

scaled_cross : (m : ℤ) (d e k : ℕ) → e * k ≡ d → m *ℤ pos d ≡ (m *ℤ pos k) *ℤ pos e
scaled_cross m d e k h =
    let a : up (m *ℤ pos k) ≡ up m * k = omega (arith, ints) in
    let b : down (m *ℤ pos k) ≡ down m * k = omega (arith, ints) in
    parts_cross m (m *ℤ pos k) d e (omega (arith, ap (λ t. t * e) a, ap (λ t. t * e) b, ap (λ t. up m * t) h, ap (λ t. down m * t) h))

pub over_scale : (d : ℕ) (q : Ratio) → 0 < d → q.den ∣ d → IsOver (at_scale d q) d q
over_scale d q h k = record { some = h; cross = scaled_cross q.num d q.den (d / q.den) (mul-div_cancel' q.den k) }

-- the product of the denominators
abbrev pub common_denominator : List Ratio → ℕ
common_denominator [] = 1
common_denominator (q ∷ qs) = q.den * common_denominator qs

pub common_denominator_positive : (qs : List Ratio) → 0 < common_denominator qs
common_denominator_positive [] = omega arith
common_denominator_positive (q ∷ qs) = mul-pos q.positive (common_denominator_positive qs)

-- each denominator divides d
abbrev pub AllDivide : ℕ → List Ratio → Type 0
AllDivide d [] = Unit {0}
AllDivide d (q ∷ qs) = (q.den ∣ d) × AllDivide d qs

pub AllDivide-mul : (d k : ℕ) (qs : List Ratio) → AllDivide d qs → AllDivide (k * d) qs
AllDivide-mul d k [] h = tt
AllDivide-mul d k (q ∷ qs) h = (dvd-mul_left_of_dvd q.den h.0 k, AllDivide-mul d k qs h.1)

pub AllDivide-common_denominator : (qs : List Ratio) → AllDivide (common_denominator qs) qs
AllDivide-common_denominator [] = tt
AllDivide-common_denominator (q ∷ qs) =
    (dvd-mul_right q.den (common_denominator qs), AllDivide-mul (common_denominator qs) q.den qs (AllDivide-common_denominator qs))

-- over d, the sum of ratios is the sum of their numerators
pub over_fold : (d : ℕ) → 0 < d → (z : ℤ) (q : Ratio) (qs : List Ratio) → IsOver z d q → AllDivide d qs →
    IsOver (fold (λ t u. t +ℤ u) z (map (at_scale d) qs)) d (fold ratio_add q qs)
over_fold d p z q [] h k = h
over_fold d p z q (r ∷ rs) h k =
    over_fold d p (z +ℤ at_scale d r) (ratio_add q r) rs (over_add z (at_scale d r) d q r h (over_scale d r p k.0)) k.1
