-- Rows that no member of an operator's inputs gives: they weigh 0.
use Rattle.std.specs.Prelude.{◌≡◌, ◌≢◌, true, cond, filter, length, List, [], ◌∷◌, map, refl}
use Rattle.std.specs.List.{AllByRecursion, range_with_len}
use Rattle.std.proofs.Common.{arith, sym, ap, ◌∙◌}
use Rattle.std.proofs.lemmas.Bool.{and_parts, false_from_ne_true}
use Rattle.ratios.specs.Ratio.{Ratio, zero_ratio}
use Rattle.ratios.specs.Sums.{ratio_sum}
use Rattle.datasets.specs.Dataset.{at, rows}
use Rattle.datasets.specs.Entries.{Row, has_row, same_row}
use Rattle.datasets.proofs.Rows.{same_row-equal}
use Rattle.datasets.proofs.Members.{AllByRecursion-everywhere}
use Rattle.datasets.proofs.RowLists.{has_row-filter}
use Rattle.operators.specs.Laws.{GroupElsewhere, JoinElsewhere, ShaveElsewhere}
use Rattle.operators.specs.Operators.{both_rows, cells, group_row, half_gap, joint_weight, key_levels, keys, levels, matches, numbered, part, piece}
use Rattle.operators.specs.Weights.{gathered, weights_for}
use Rattle.operators.proofs.Gathered.{at-gathered}
use Rattle.operators.proofs.Members.{AllByRecursion-pairs, AllByRecursion-range_with_len}
use Rattle.operators.proofs.SingleWeights.{AllByRecursion-has_row}

-- no member gives the row z
pub weights_for-none : {X : Type 0} (row : X → Row) (weight : X → Ratio) (xs : List X) (z : Row) → AllByRecursion (λ x. z ≢ row x) xs → weights_for row weight xs z ≡ []
weights_for-none row weight [] z none = refl
weights_for-none row weight (x ∷ xs) z none =
    ap (λ b. map weight (cond b (x ∷ filter (λ x. same_row z (row x)) xs) (filter (λ x. same_row z (row x)) xs)))
    (false_from_ne_true (same_row z (row x)) (λ e. none.0 (same_row-equal z (row x) e)))
    ∙ weights_for-none row weight xs z none.1

at-gathered-none : {X : Type 0} (row : X → Row) (weight : X → Ratio) (xs : List X) (z : Row) → AllByRecursion (λ x. z ≢ row x) xs → at (gathered row weight xs) z ≡ zero_ratio
at-gathered-none row weight xs z none = at-gathered row weight xs z ∙ ap ratio_sum (weights_for-none row weight xs z none)

-- each row of a list is one that it has
each_row : (xs : List Row) → AllByRecursion (λ x. has_row xs x ≡ true) xs
each_row xs = AllByRecursion-has_row (λ x. has_row xs x ≡ true) xs (λ x there. there)

pub shave_elsewhere : ShaveElsewhere
shave_elsewhere fs A z other =
    at-gathered-none numbered (λ p. piece fs (at A p.0) p.1) (cells fs A) z
    (AllByRecursion-pairs (λ x. has_row (rows A) x ≡ true) (λ p. z ≢ numbered p) (λ x. range_with_len 0 (length fs)) (rows A)
    (λ x there. AllByRecursion-range_with_len (λ i. z ≢ numbered (x, i)) 0 (length fs) (λ i low high. other x i there (omega arith)))
    (each_row (rows A)))

pub join_elsewhere : JoinElsewhere
join_elsewhere f g A B z other =
    let partners : Row → List Row = λ x. filter (λ y. same_row (f x) (g y)) (rows B) in
    at-gathered-none both_rows (joint_weight f g A B) (matches f g A B) z
    (AllByRecursion-pairs (λ x. has_row (rows A) x ≡ true) (λ p. z ≢ both_rows p) partners (rows A)
    (λ x there. AllByRecursion-has_row (λ y. z ≢ both_rows (x, y)) (partners x) (λ y kept.
    let parts = and_parts (same_row (f x) (g y)) (has_row (rows B) y) (sym (has_row-filter (λ y. same_row (f x) (g y)) (rows B) y) ∙ kept) in
    other x y there parts.1 (same_row-equal (f x) (g y) parts.0)))
    (each_row (rows A)))

pub group_elsewhere : GroupElsewhere
group_elsewhere key reduce A z other =
    at-gathered-none (group_row key reduce A) (half_gap key A) (key_levels key A) z
    (AllByRecursion-pairs (λ k. has_row (keys key A) k ≡ true) (λ p. z ≢ group_row key reduce A p) (λ k. levels (part key k A)) (keys key A)
    (λ k there. AllByRecursion-everywhere (λ t. z ≢ group_row key reduce A (k, t)) (levels (part key k A)) (λ t. other k _ there))
    (each_row (keys key A)))
