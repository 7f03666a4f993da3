-- The weight of an output row that one member of a list gives: a piece of a shave, a pair of a join.
use Rattle.std.specs.Prelude.{◌≡◌, ◌&&◌, ◌||◌, ℕ, pos, true, drop, filter, length, List, [], ◌∷◌, ◌++◌, map, take}
use Rattle.std.specs.List.{AllByRecursion, range_with_len}
use Rattle.std.proofs.Common.{arith, sym, ap, ap₂, ◌∙◌}
use Rattle.std.proofs.Math.Bool.{or-true}
use Rattle.std.proofs.Math.Seq.{drop-append_seam, take-append_seam}
use Rattle.std.proofs.lemmas.List.{length-append}
use Rattle.std.proofs.lemmas.List.Kept.{IsStrictlySortedBy-filter}
use Rattle.ratios.specs.Ratio.{Ratio}
use Rattle.ratios.specs.Sums.{ratio_sum}
use Rattle.ratios.proofs.Additive.{ratio_zero_add}
use Rattle.record_text.specs.Order.{row_cmp}
use Rattle.record_text.specs.declared.atom.Atom.TheVariants.{Int}
use Rattle.datasets.specs.Dataset.{at, rows}
use Rattle.datasets.specs.Entries.{Row, has_row, same_row}
use Rattle.datasets.proofs.Rows.{same_row-equal, same_row-itself}
use Rattle.datasets.proofs.Members.{AllByRecursion-everywhere, AllByRecursion-weaker}
use Rattle.datasets.proofs.RowLists.{has_row-filter}
use Rattle.operators.specs.Laws.{JoinPairs, ShavePieces}
use Rattle.operators.specs.Operators.{both_rows, cells, joint_weight, matches, numbered, piece}
use Rattle.operators.specs.Weights.{gathered}
use Rattle.operators.proofs.Gathered.{at-gathered}
use Rattle.operators.proofs.Members.{AllByRecursion-pairs}
use Rattle.operators.proofs.Once.{HasOnce, HasOnce-pairs, HasOnce-range_with_len, HasOnce-rising, filter-once}

-- the row of a member weighs what the member does, where the list has it once and no other member gives that row
at-gathered-once : {X : Type 0} (row : X → Row) (weight : X → Ratio) (x : X) (xs : List X) → AllByRecursion (λ y. row y ≡ row x → y ≡ x) xs → HasOnce x xs → at (gathered row weight xs) (row x) ≡ weight x
at-gathered-once row weight x xs only once =
    let passing = AllByRecursion-weaker (λ y. row y ≡ row x → y ≡ x) (λ y. same_row (row x) (row y) ≡ true → y ≡ x) xs (λ y same e. same (sym (same_row-equal (row x) (row y) e))) only in
    let kept = filter-once (λ y. same_row (row x) (row y)) x xs (same_row-itself (row x)) passing once in
    at-gathered row weight xs (row x) ∙ ap (λ ys. ratio_sum (map weight ys)) kept ∙ ratio_zero_add (weight x)

-- ---- lists of equal lengths, one after another

pub same_fronts : {A : Type 0} (v w : List A) (y z : List A) → length v ≡ length w → v ++ y ≡ w ++ z → v ≡ w
same_fronts v w y z l e = sym (take-append_seam v y) ∙ ap₂ take l e ∙ take-append_seam w z

pub same_backs : {A : Type 0} (v w : List A) (y z : List A) → length v ≡ length w → v ++ y ≡ w ++ z → y ≡ z
same_backs v w y z l e = sym (drop-append_seam v y) ∙ ap₂ drop l e ∙ drop-append_seam w z

-- ---- pieces of a shave

same_cell : (p q : Row × ℕ) → numbered p ≡ numbered q → p ≡ q
same_cell p q e =
    let l : length p.0 ≡ length q.0 = omega (arith, ap length e, length-append p.0 (Int (pos p.1) ∷ []), length-append q.0 (Int (pos q.1) ∷ [])) in
    let f = same_fronts p.0 q.0 (Int (pos p.1) ∷ []) (Int (pos q.1) ∷ []) l e in
    let g = same_backs p.0 q.0 (Int (pos p.1) ∷ []) (Int (pos q.1) ∷ []) l e in
    let h : p.1 ≡ q.1 = cc in
    ap₂ (λ x i. (x, i)) f h

pub at-shaved-piece : ShavePieces
at-shaved-piece fs A x i in_rows in_pieces =
    at-gathered-once numbered (λ p. piece fs (at A p.0) p.1) (x, i) (cells fs A)
    (AllByRecursion-everywhere (λ p. numbered p ≡ numbered (x, i) → p ≡ (x, i)) (cells fs A) (λ p. same_cell p (x, i)))
    (HasOnce-pairs (λ x. range_with_len 0 (length fs)) x i (rows A) (HasOnce-rising (rows A) x A.rising in_rows) (HasOnce-range_with_len 0 (length fs) i i (omega arith) in_pieces))

-- ---- pairs of a join

-- P of each row that a list has
pub AllByRecursion-has_row : (P : Row → Type 0) (xs : List Row) → ((x : Row) → has_row xs x ≡ true → P x) → AllByRecursion P xs
AllByRecursion-has_row P [] h = tt
AllByRecursion-has_row P (x ∷ xs) h =
    (h x (ap (λ b. b || has_row xs x) (same_row-itself x)), AllByRecursion-has_row P xs (λ z k. h z (ap (λ b. same_row z x || b) k ∙ or-true (same_row z x))))

same_pair : (n : ℕ) (p q : Row × Row) → length p.0 ≡ n → length q.0 ≡ n → both_rows p ≡ both_rows q → p ≡ q
same_pair n p q l m e = ap₂ (λ x y. (x, y)) (same_fronts p.0 q.0 p.1 q.1 (l ∙ sym m) e) (same_backs p.0 q.0 p.1 q.1 (l ∙ sym m) e)

pub at-joined-pair : JoinPairs
at-joined-pair f g A B n x y wide in_first in_second keys =
    let partners : Row → List Row = λ x. filter (λ y. same_row (f x) (g y)) (rows B) in
    let key : same_row (f x) (g y) ≡ true = ap (same_row (f x)) (sym keys) ∙ same_row-itself (f x) in
    let in_partners : has_row (partners x) y ≡ true = has_row-filter (λ y. same_row (f x) (g y)) (rows B) y ∙ ap₂ (λ a b. a && b) key in_second in
    at-gathered-once both_rows (joint_weight f g A B) (x, y) (matches f g A B)
    (AllByRecursion-pairs (λ w. length w ≡ n) (λ p. both_rows p ≡ both_rows (x, y) → p ≡ (x, y)) partners (rows A)
    (λ w l. AllByRecursion-everywhere (λ z. both_rows (w, z) ≡ both_rows (x, y) → (w, z) ≡ (x, y)) (partners w) (λ z. same_pair n (w, z) (x, y) l (wide x in_first)))
    (AllByRecursion-has_row (λ w. length w ≡ n) (rows A) wide))
    (HasOnce-pairs partners x y (rows A) (HasOnce-rising (rows A) x A.rising in_first)
    (HasOnce-rising (partners x) y (IsStrictlySortedBy-filter row_cmp (λ y. same_row (f x) (g y)) (rows B) B.rising) in_partners))
