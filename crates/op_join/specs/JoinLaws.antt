-- The laws of Join.
use Rattle.std.specs.Prelude.{◌≡◌, ◌≢◌, ◌↔◌, ◌&&◌, ◌||◌, ◌++◌, Bool, true, false, length, [], take, refl}
use Rattle.std.specs.List.{AllByRecursion}
use Rattle.std.proofs.Common.{sym, ap, ap₂, subst, ◌∙◌}
use Rattle.std.proofs.Math.Seq.{take-append_seam}
use Rattle.std.proofs.lemmas.Bool.{and_from, and_parts}
use Rattle.std.proofs.lemmas.List.{length-map}
use Rattle.ratios.specs.Range.{InRange}
use Rattle.ratios.specs.Ratio.{one_ratio, ratio_mul, zero_ratio}
use Rattle.ratios.specs.Sums.{ratio_sum}
use Rattle.ratios.proofs.Products.{ratio_mul_one}
use Rattle.record_text.specs.KindLists.{kinds_of}
use Rattle.datasets.specs.Dataset.{Dataset, at, rows}
use Rattle.datasets.specs.Entries.{Row, is_zero}
use Rattle.datasets.proofs.Members.{AllByRecursion-everywhere, AllByRecursion-weaker}
use Rattle.datasets.proofs.Rows.{other_if_not_is_zero, zero_if_is_zero}
use Rattle.operators.specs.InRange.{join_in_range, key_in_range, weights_in_range}
use Rattle.operators.specs.Operators.{both_rows, part}
use Rattle.operators.specs.Weights.{pairs, weights_for}
use Rattle.operators.proofs.Gathered.{at-gathered}
use Rattle.operators.proofs.Members.{AllByRecursion-pairs}
use Rattle.operators.proofs.OutputRows.{AllRows-gathered}
use Rattle.operators.proofs.SingleWeights.{AllByRecursion-has_row}
use Rattle.plan_model.specs.Evaluation.{row_of}
use Rattle.plan_model.specs.Types.{HasColumns}
use Rattle.weighted_set.specs.Held.{AllInRange}
use Rattle.weighted_set.specs.Parts.{FactoredInRange, part_of}
use Rattle.weighted_set.specs.declared.part_op.Side.{Side}
use Rattle.weighted_set.specs.declared.part_op.Side.TheVariants.{Left, Right}
use Rattle.weighted_set.proofs.Parts.{FactoredInRange-ones, at-part_of, at-present}
use Rattle.weighted_set.proofs.Sets.{InRange-zero}
use Rattle.op_parts.specs.OneRow.{one_row}
use Rattle.op_parts.specs.Takes.{has_columns}
use Rattle.op_parts.proofs.Members.{at-weighed}
use Rattle.op_parts.proofs.OneKeys.{part_of-one_key}
use Rattle.op_parts.proofs.OneRows.{factor-in_part, weighed_row}
use Rattle.op_parts.proofs.Ranges.{AllInRange-tested, weights_in_range-all}
use Rattle.op_parts.proofs.Takes.{columns_told}
use Rattle.op_join.specs.Join.{IsJoinRow, JoinParts, TakesJoinPart, has_no_row, join_fits, join_keys, join_output, join_owner, join_takes, joined_part, pair_weight, part_in_range, side_key}
use Rattle.op_join.specs.KeyParts.{keys-tested, no_rows, pairs-none, part-tested}
use Rattle.op_join.specs.OwnPairs.{at-own_parts}

-- ---- the inputs that are taken

columns_of_takes : (op : JoinParts) (A B : Dataset) → join_takes op A B ≡ true → HasColumns op.left A × HasColumns op.right B
columns_of_takes op A B taken = let parts = and_parts (has_columns op.left A) (has_columns op.right B) taken in (columns_told op.left A parts.0, columns_told op.right B parts.1)

pub join_takes_row : (op : JoinParts) (A B : Dataset) (x : Row) → join_takes op A B ≡ true → (at A x ≢ zero_ratio → IsJoinRow op Left x) × (at B x ≢ zero_ratio → IsJoinRow op Right x)
join_takes_row op A B x taken =
    let cols = columns_of_takes op A B taken in
    (at-weighed (λ x. kinds_of x ≡ op.left) A x cols.0, at-weighed (λ x. kinds_of x ≡ op.right) B x cols.1)

-- a row of a part is one of the input, with its weight, and has the key
module _ (f : Row → Row) (k : Row) (A : Dataset) where
  abbrev own : Dataset
  own = part_of (λ x. one_row (f x) one_ratio) k A

  weighed_own : (x : Row) → at own x ≢ zero_ratio → (at own x ≡ at A x) × (f x ≡ k)
  weighed_own x weighed =
      let p = weighed_row (f x) one_ratio k (factor-in_part (λ x. one_row (f x) one_ratio) k A x weighed) in
      (at-part_of (λ x. one_row (f x) one_ratio) k A x ∙ ap (ratio_mul (at A x)) p.0 ∙ ratio_mul_one (at A x), sym p.1)

  own_columns : (P : Row → Type 0) → AllByRecursion P (rows A) → AllByRecursion P (rows own)
  own_columns P h =
      AllByRecursion-has_row P (rows own) (λ x there.
      let weighed = at-present own x there in
      at-weighed P A x h (λ none. weighed ((weighed_own x weighed).0 ∙ none)))

pub join_takes_part : (op : JoinParts) (A B : Dataset) (k : Row) → join_takes op A B ≡ true → TakesJoinPart op k (part_of (join_keys op Left) k A) (part_of (join_keys op Right) k B)
join_takes_part op A B k taken =
    let cols = columns_of_takes op A B taken in (
      own_columns (row_of op.left_key) k A (λ x. kinds_of x ≡ op.left) cols.0,
      own_columns (row_of op.right_key) k B (λ x. kinds_of x ≡ op.right) cols.1,
      λ x weighed. (weighed_own (row_of op.left_key) k A x weighed).1,
    )

-- ---- outputs

-- the front of an output row is its row on the left
front_row : (op : JoinParts) (x y : Row) → kinds_of x ≡ op.left → take (length op.left) (x ++ y) ≡ x
front_row op x y cols = ap (λ n. take n (x ++ y)) (sym (ap length cols) ∙ length-map x _) ∙ take-append_seam x y

pub join_owned : (op : JoinParts) (k : Row) (A B : Dataset) (z : Row) → TakesJoinPart op k A B → at (joined_part A B) z ≢ zero_ratio → join_owner op z ≡ k
join_owned op k A B z taken weighed =
    at-weighed (λ z. join_owner op z ≡ k) (joined_part A B) z
    (AllRows-gathered (λ z. join_owner op z ≡ k) both_rows (pair_weight A B) (pairs (rows A) (λ x. rows B))
    (AllByRecursion-pairs (λ x. (kinds_of x ≡ op.left) × (row_of op.left_key x ≡ k)) (λ p. join_owner op (both_rows p) ≡ k) (λ x. rows B) (rows A)
    (λ x h. AllByRecursion-everywhere (λ y. join_owner op (x ++ y) ≡ k) (rows B) (λ y. ap (row_of op.left_key) (front_row op x y h.0) ∙ h.1))
    (AllByRecursion-has_row (λ x. (kinds_of x ≡ op.left) × (row_of op.left_key x ≡ k)) (rows A) (λ x there.
    let w = at-present A x there in
    (at-weighed (λ x. kinds_of x ≡ op.left) A x taken.0 w, taken.2 x w)))))
    weighed

-- the join weighs at a row what the parts of its owner do
own_parts : (op : JoinParts) (k : Row) (A B : Dataset) → joined_part (part (row_of op.left_key) k A) (part (row_of op.right_key) k B) ≡ joined_part (part_of (join_keys op Left) k A) (part_of (join_keys op Right) k B)
own_parts op k A B = ap₂ joined_part (sym (part_of-one_key (row_of op.left_key) k A)) (sym (part_of-one_key (row_of op.right_key) k B))

pub join_together : (op : JoinParts) (A B : Dataset) (z : Row) → join_takes op A B ≡ true →
    at (join_output op A B) z ≡ at (joined_part (part_of (join_keys op Left) (join_owner op z) A) (part_of (join_keys op Right) (join_owner op z) B)) z
join_together op A B z taken =
    at-own_parts (row_of op.left_key) (row_of op.right_key) A B (join_owner op z) z
    (AllByRecursion-weaker (λ x. kinds_of x ≡ op.left) (λ x. (y : Row) → z ≡ x ++ y → row_of op.left_key x ≡ join_owner op z) (rows A)
    (λ x cols y e. ap (row_of op.left_key) (sym (front_row op x y cols) ∙ sym (ap (take (length op.left)) e)))
    (columns_of_takes op A B taken).0)
    ∙ ap (λ C. at C z) (own_parts op (join_owner op z) A B)

-- ---- range

join_factors : (op : JoinParts) (side : Side) (x k : Row) → at (join_keys op side x) k ≢ zero_ratio → at (join_keys op side x) k ≡ one_ratio
join_factors op side x k h = (weighed_row (row_of (side_key op side) x) one_ratio k h).0

-- an output weight of a part is one of the whole, or 0
part_weights : (op : JoinParts) (A B : Dataset) (k : Row) → join_takes op A B ≡ true → AllInRange (join_output op A B) → AllInRange (joined_part (part_of (join_keys op Left) k A) (part_of (join_keys op Right) k B))
part_weights op A B k taken h z =
    let C = joined_part (part_of (join_keys op Left) k A) (part_of (join_keys op Right) k B) in
    elim (is_zero (at C z)) as (λ b. is_zero (at C z) ≡ b → InRange (at C z)) [
      | true ↦ λ e. subst InRange (sym (zero_if_is_zero (at C z) e)) InRange-zero
      | false ↦ λ e.
          let owner = join_owned op k (part_of (join_keys op Left) k A) (part_of (join_keys op Right) k B) z (join_takes_part op A B k taken) (other_if_not_is_zero (at C z) e) in
          subst InRange (join_together op A B z taken ∙ ap (λ k. at (joined_part (part_of (join_keys op Left) k A) (part_of (join_keys op Right) k B)) z) owner) (h z)
    ] refl

pub join_output_in_range : (op : JoinParts) (A B : Dataset) → join_fits op A B ≡ true → AllInRange (join_output op A B)
join_output_in_range op A B fits =
    AllInRange-tested (join_output op A B) (and_parts (join_in_range (row_of op.left_key) (row_of op.right_key) A B) (weights_in_range (join_output op A B)) fits).1

-- the weights of parts in range are in range
own_weights : (P Q : Dataset) (z : Row) → part_in_range P Q ≡ true → InRange (at (joined_part P Q) z)
own_weights P Q z h = split (has_no_row P) refl (has_no_row Q) refl h
  where
    inside : weights_in_range (joined_part P Q) ≡ true → InRange (at (joined_part P Q) z)
    inside weights = AllInRange-tested (joined_part P Q) weights z

    none : pairs (rows P) (λ x. rows Q) ≡ [] → InRange (at (joined_part P Q) z)
    none e = subst InRange (sym (at-gathered both_rows (pair_weight P Q) (pairs (rows P) (λ x. rows Q)) z ∙ ap (λ ps. ratio_sum (weights_for both_rows (pair_weight P Q) ps z)) e)) InRange-zero

    split : (a : Bool) → has_no_row P ≡ a → (b : Bool) → has_no_row Q ≡ b → (a || b || (key_in_range P Q && weights_in_range (joined_part P Q))) ≡ true → InRange (at (joined_part P Q) z)
    split true p b q t = none (ap (λ xs. pairs xs (λ x. rows Q)) (no_rows (rows P) p))
    split false p true q t = none (ap (λ ys. pairs (rows P) (λ x. ys)) (no_rows (rows Q) q) ∙ pairs-none (rows P))
    split false p false q t = inside (and_parts (key_in_range P Q) (weights_in_range (joined_part P Q)) t).1

pub join_fits_by_part : (op : JoinParts) (A B : Dataset) → join_takes op A B ≡ true → AllInRange A → AllInRange B →
    (join_fits op A B ≡ true) ↔ (FactoredInRange (join_keys op Left) A × FactoredInRange (join_keys op Right) B × ((k : Row) → part_in_range (part_of (join_keys op Left) k A) (part_of (join_keys op Right) k B) ≡ true))
join_fits_by_part op A B taken a b = (
  λ fits. (FactoredInRange-ones (join_keys op Left) (join_factors op Left) InRange-zero A a, FactoredInRange-ones (join_keys op Right) (join_factors op Right) InRange-zero B b, parts fits),
  λ h. whole h.2,
)
  where
    f : Row → Row
    f = row_of op.left_key

    g : Row → Row
    g = row_of op.right_key

    same : (k : Row) → part_in_range (part f k A) (part g k B) ≡ part_in_range (part_of (join_keys op Left) k A) (part_of (join_keys op Right) k B)
    same k = ap₂ part_in_range (sym (part_of-one_key f k A)) (sym (part_of-one_key g k B))

    parts : join_fits op A B ≡ true → (k : Row) → part_in_range (part_of (join_keys op Left) k A) (part_of (join_keys op Right) k B) ≡ true
    parts fits k =
        let inside = (and_parts (join_in_range f g A B) (weights_in_range (join_output op A B)) fits).0 in
        let C = joined_part (part_of (join_keys op Left) k A) (part_of (join_keys op Right) k B) in
        let weights : weights_in_range C ≡ true = weights_in_range-all C (part_weights op A B k taken (join_output_in_range op A B fits)) in
        sym (same k) ∙ part-tested f g A B inside k (ap weights_in_range (own_parts op k A B) ∙ weights)

    whole : ((k : Row) → part_in_range (part_of (join_keys op Left) k A) (part_of (join_keys op Right) k B) ≡ true) → join_fits op A B ≡ true
    whole h =
        and_from (join_in_range f g A B) (weights_in_range (join_output op A B)) (keys-tested f g A B (λ k. same k ∙ h k))
        (weights_in_range-all (join_output op A B) (λ z.
        let k = join_owner op z in
        subst InRange (sym (join_together op A B z taken)) (own_weights (part_of (join_keys op Left) k A) (part_of (join_keys op Right) k B) z (h k))))
