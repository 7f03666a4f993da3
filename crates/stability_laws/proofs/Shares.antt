-- Many and Shave: the members that a row makes are no further apart than its two weights.
use Rattle.std.specs.List.{AllByRecursion, range_with_len}
use Rattle.std.specs.Prelude.{◌≡◌, ◌≤◌, ◌<◌, ◌+◌, ℕ, zero, suc, pos, List, [], ◌∷◌, length, refl, slice_index_or, take}
use Rattle.std.proofs.Common.{arith, sym, ap, ap₂, ◌∙◌}
use Rattle.std.proofs.lemmas.Int.{ints}
use Rattle.std.proofs.lemmas.List.Sums.{sum_by-cons}
use Rattle.ratios.specs.Ratio.{Ratio, ratio, ratio_abs, ratio_add, ratio_max, ratio_min, ratio_mul, ratio_sub, zero_ratio}
use Rattle.ratios.specs.Sums.{ratio_sum}
use Rattle.ratios.proofs.Additive.{sub_twice}
use Rattle.ratios.proofs.Field.{abs_nonneg, abs_of_nonneg, add_le, add_nonneg, le_refl, le_then, le_trans, mul_abs, mul_le_one, same_then, sub_mul}
use Rattle.ratios.proofs.Linear.{abs, add, greater, le_of, less, nil, same_of, sub, whole_le, ◌⊑◌}
use Rattle.ratios.proofs.Order.{three}
use Rattle.ratios.proofs.Products.{ratio_of_both, ratio_of_none, ratio_zero_mul}
use Rattle.ratios.proofs.Quotients.{ratio_le_one, ratio_nonneg}
use Rattle.ratios.proofs.SumLaws.{ratio_sum-cons}
use Rattle.ratios.proofs.Totals.{total, total-cons, total-le, total-mul, total-same}
use Rattle.datasets.specs.Dataset.{Dataset, apart, at, dist, rows, rows_of_either}
use Rattle.datasets.specs.Entries.{Row}
use Rattle.datasets.proofs.Covers.{Covers-first, Covers-second}
use Rattle.datasets.proofs.RowLists.{AreRising-rows_of_either}
use Rattle.operators.specs.Operators.{Giving, applying, divisor, numbered, piece, shaved, spread, weight_of}
use Rattle.operators.specs.Weights.{gathered, pairs}
use Rattle.stability_laws.proofs.Gathers.{dist-gathered, gathered-pairs-cover, total-pairs}

-- members (x, i) that weigh what a row's weight gives: 0 gives 0, and over the members of one row two weights
-- give sums no further apart than they are
pub members_stable : {I : Type 0} (row : Row × I → Row) (give : Row × I → Ratio → Ratio) (is : Row → List I) →
    ((p : Row × I) → give p zero_ratio ≡ zero_ratio) → ((x : Row) (q r : Ratio) → total (λ i. ratio_abs (ratio_sub (give (x, i) q) (give (x, i) r))) (is x) ⊑ ratio_abs (ratio_sub q r)) →
    (A B : Dataset) → dist (gathered row (λ p. give p (at A p.0)) (pairs (rows A) is)) (gathered row (λ p. give p (at B p.0)) (pairs (rows B) is)) ⊑ dist A B
members_stable {I} row give is none short A B =
    let ws = rows_of_either A B in
    let r = AreRising-rows_of_either A B in
    let v : Row × I → Ratio = λ p. give p (at A p.0) in
    let w : Row × I → Ratio = λ p. give p (at B p.0) in
    let gap : Row × I → Ratio = λ p. ratio_abs (ratio_sub (v p) (w p)) in
    same_then (ap₂ dist (gathered-pairs-cover row v is A ws r (Covers-first A B) (λ x e i. ap (give (x, i)) e ∙ none (x, i))) (gathered-pairs-cover row w is B ws r (Covers-second A B) (λ x e i. ap (give (x, i)) e ∙ none (x, i))))
    (le_trans (dist-gathered row v w (pairs ws is))
    (same_then (total-pairs gap is ws) (total-le (λ x. total (λ i. gap (x, i)) (is x)) (apart A B) ws (λ x. short x (at A x) (at B x)))))

-- ---- Many

-- the shares of some items are the share of their weight
total-shares : (d : ℕ) (is : List Giving) → total (λ i. ratio (pos i.weight) (pos d)) is ≡ ratio (pos (weight_of is)) (pos d)
total-shares d [] = sym (ratio_of_none d)
total-shares d (i ∷ is) =
    total-cons (λ i. ratio (pos i.weight) (pos d)) i is
    ∙ ap (ratio_add (ratio (pos i.weight) (pos d))) (total-shares d is)
    ∙ sym (ratio_of_both i.weight (weight_of is) d)
    ∙ ap (λ n. ratio (pos n) (pos d)) (sym (sum_by-cons (λ i. i.weight) i is))

pub many_stable : (over : ℕ) (items : List Giving) → 0 < over → (A B : Dataset) → dist (spread over items A) (spread over items B) ⊑ dist A B
many_stable over items some =
    let share : Row × Giving → Ratio = λ p. ratio (pos p.1.weight) (pos (divisor over items p.0)) in
    members_stable (λ p. p.1.row p.0) (λ p q. ratio_mul q (share p)) (applying items) (λ p. ratio_zero_mul (share p))
    (λ x q r.
    let d = divisor over items x in
    let h : 0 < d = omega arith in
    let k : weight_of (applying items x) ≤ d = omega arith in
    same_then (total-same (λ i. ratio_abs (ratio_sub (ratio_mul q (share (x, i))) (ratio_mul r (share (x, i))))) (λ i. ratio_mul (ratio_abs (ratio_sub q r)) (share (x, i))) (applying items x)
    (λ i. ap ratio_abs (sub_mul q r (share (x, i))) ∙ mul_abs (ratio_sub q r) (share (x, i)) ∙ ap (ratio_mul (ratio_abs (ratio_sub q r))) (abs_of_nonneg (ratio_nonneg i.weight d)))
    ∙ total-mul (ratio_abs (ratio_sub q r)) (λ i. share (x, i)) (applying items x) ∙ ap (ratio_mul (ratio_abs (ratio_sub q r))) (total-shares d (applying items x)))
    (mul_le_one (abs_nonneg (ratio_sub q r)) (ratio_le_one (weight_of (applying items x)) d h k)))

-- ---- Shave

total-range : (g : ℕ → Ratio) (a n : ℕ) → total g (range_with_len (a + 1) n) ≡ total (λ i. g (suc i)) (range_with_len a n)
total-range g a zero = refl
total-range g a (suc n) =
    let e : a + 1 ≡ suc a = omega arith in
    total-cons g (a + 1) (range_with_len (a + 1 + 1) n) ∙ ap₂ ratio_add (ap g e) (total-range g (a + 1) n) ∙ sym (total-cons (λ i. g (suc i)) a (range_with_len (a + 1) n))

-- w, or 0 where it is below 0
abbrev above_zero : Ratio → Ratio
above_zero w = ratio_max zero_ratio w

-- after the first piece, the pieces are those of what is left
piece-later : (f : Ratio) (fs : List Ratio) (w : Ratio) (i : ℕ) → piece (f ∷ fs) w (suc i) ≡ piece fs (ratio_sub w f) i
piece-later f fs w i =
    ap (λ q. ratio_max zero_ratio (ratio_min (slice_index_or fs i zero_ratio) q))
    (ap (ratio_sub w) (ratio_sum-cons f (take i fs)) ∙ sub_twice w f (ratio_sum (take i fs)))

-- the first piece and what is above 0 of the rest are what is above 0
split : (f q r : Ratio) → zero_ratio ⊑ f →
    ratio_add (ratio_abs (ratio_sub (piece (f ∷ []) q 0) (piece (f ∷ []) r 0))) (ratio_abs (ratio_sub (above_zero (ratio_sub q f)) (above_zero (ratio_sub r f)))) ⊑ ratio_abs (ratio_sub (above_zero q) (above_zero r))
split f q r h =
    let t = three f q r in
    let n = nil t.first in
    let z = whole_le n t.first h in
    let u = less t.first (sub t.second n) in
    let v = less t.first (sub t.third n) in
    let a = greater n u.over in
    let b = greater n v.over in
    let c = greater n (sub t.second t.first) in
    let d = greater n (sub t.third t.first) in
    let x = greater n t.second in
    let y = greater n t.third in
    le_of (add (abs (sub a.over b.over)) (abs (sub c.over d.over))) (abs (sub x.over y.over)) (omega (arith, ints))

pieces_short : (fs : List Ratio) → AllByRecursion (λ f. zero_ratio ⊑ f) fs → (q r : Ratio) →
    total (λ i. ratio_abs (ratio_sub (piece fs q i) (piece fs r i))) (range_with_len 0 (length fs)) ⊑ ratio_abs (ratio_sub (above_zero q) (above_zero r))
pieces_short [] h q r = abs_nonneg (ratio_sub (above_zero q) (above_zero r))
pieces_short (f ∷ fs) h q r =
    let gap : ℕ → Ratio = λ i. ratio_abs (ratio_sub (piece (f ∷ fs) q i) (piece (f ∷ fs) r i)) in
    same_then (total-cons gap 0 (range_with_len (0 + 1) (length fs)) ∙ ap (ratio_add (gap 0)) (total-range gap 0 (length fs)
    ∙ total-same (λ i. gap (suc i)) (λ i. ratio_abs (ratio_sub (piece fs (ratio_sub q f) i) (piece fs (ratio_sub r f) i))) (range_with_len 0 (length fs))
    (λ i. ap₂ (λ x y. ratio_abs (ratio_sub x y)) (piece-later f fs q i) (piece-later f fs r i))))
    (le_trans (add_le (le_refl (gap 0)) (pieces_short fs h.1 (ratio_sub q f) (ratio_sub r f))) (split f q r h.0))

above_zero_short : (q r : Ratio) → ratio_abs (ratio_sub (above_zero q) (above_zero r)) ⊑ ratio_abs (ratio_sub q r)
above_zero_short q r =
    let t = three q r r in
    let x = greater (nil t.first) t.first in
    let y = greater (nil t.first) t.second in
    le_of (abs (sub x.over y.over)) (abs (sub t.first t.second)) (omega (arith, ints))

sum_of_front : (fs : List Ratio) (i : ℕ) → AllByRecursion (λ f. zero_ratio ⊑ f) fs → zero_ratio ⊑ ratio_sum (take i fs)
sum_of_front fs zero h = le_refl zero_ratio
sum_of_front [] (suc i) h = le_refl zero_ratio
sum_of_front (f ∷ fs) (suc i) h = le_then (add_nonneg h.0 (sum_of_front fs i h.1)) (sym (ratio_sum-cons f (take i fs)))

no_piece : (f s : Ratio) → zero_ratio ⊑ s → ratio_max zero_ratio (ratio_min f (ratio_sub zero_ratio s)) ≡ zero_ratio
no_piece f s h =
    let t = three f s s in
    let n = nil t.first in
    let z = whole_le n t.second h in
    let u = less t.first (sub n t.second) in
    let a = greater n u.over in
    same_of a.over n (omega (arith, ints))

pub shave_stable : (fs : List Ratio) → AllByRecursion (λ f. zero_ratio ⊑ f) fs → (A B : Dataset) → dist (shaved fs A) (shaved fs B) ⊑ dist A B
shave_stable fs h =
    members_stable numbered (λ p q. piece fs q p.1) (λ x. range_with_len 0 (length fs))
    (λ p. no_piece (slice_index_or fs p.1 zero_ratio) (ratio_sum (take p.1 fs)) (sum_of_front fs p.1 h))
    (λ x q r. le_trans (pieces_short fs h q r) (above_zero_short q r))
