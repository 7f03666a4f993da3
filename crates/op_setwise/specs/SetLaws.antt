-- The laws of the set operators.
use Rattle.std.specs.Prelude.{◌≡◌, ◌≢◌, ◌↔◌, Bool, true, false, cond, List, refl}
use Rattle.std.proofs.Common.{sym, ap, ap₂, subst, ◌∙◌, true≢false}
use Rattle.ratios.specs.Range.{InRange}
use Rattle.ratios.specs.Ratio.{one_ratio, ratio_mul, zero_ratio}
use Rattle.ratios.proofs.Additive.{ratio_add_zero, ratio_sub_itself}
use Rattle.ratios.proofs.Products.{ratio_mul_one, ratio_mul_zero}
use Rattle.ratios.proofs.AtMost.{ratio_max_itself, ratio_min_itself}
use Rattle.record_text.specs.KindLists.{kinds_of}
use Rattle.record_text.specs.declared.kinds.Kind.{Kind}
use Rattle.datasets.specs.Dataset.{Dataset, at}
use Rattle.datasets.specs.Entries.{Row, is_zero, same_row}
use Rattle.datasets.proofs.Equality.{same_weights}
use Rattle.datasets.proofs.Rows.{other_if_not_is_zero, same_row-equal, same_row-itself, zero_if_is_zero}
use Rattle.operators.proofs.Tabulated.{at-pointwise}
use Rattle.plan_model.specs.Evaluation.{set_weight}
use Rattle.plan_model.specs.declared.step.SetKind.{SetKind}
use Rattle.plan_model.specs.Types.{HasColumns}
use Rattle.weighted_set.specs.Held.{AllInRange}
use Rattle.weighted_set.specs.Parts.{FactoredInRange, part_of}
use Rattle.weighted_set.specs.declared.part_op.Side.{Side}
use Rattle.weighted_set.specs.declared.part_op.Side.TheVariants.{Left, Right}
use Rattle.weighted_set.proofs.Parts.{FactoredInRange-ones, at-part_of}
use Rattle.weighted_set.proofs.Sets.{InRange-zero}
use Rattle.op_parts.specs.OneRow.{one_row}
use Rattle.op_parts.specs.Takes.{HasOnly}
use Rattle.op_parts.proofs.Members.{at-weighed}
use Rattle.op_parts.proofs.OneRows.{at-one_row, factor-in_part, weighed_row}
use Rattle.op_parts.proofs.Ranges.{AllInRange-tested, weights_in_range-all}
use Rattle.op_setwise.specs.Setwise.{BothHaveOnly, SetParts, set_fits, set_keys, set_output}

-- two weights of 0 give 0
set_weight-zero : (kind : SetKind) → set_weight kind zero_ratio zero_ratio ≡ zero_ratio
set_weight-zero SetKind.Union = ratio_max_itself zero_ratio
set_weight-zero SetKind.Intersect = ratio_min_itself zero_ratio
set_weight-zero SetKind.Concat = ratio_add_zero zero_ratio
set_weight-zero SetKind.Except = ratio_sub_itself zero_ratio

pub at-set_output : (op : SetParts) (A B : Dataset) (z : Row) → at (set_output op A B) z ≡ set_weight op.kind (at A z) (at B z)
at-set_output op A B z = at-pointwise (set_weight op.kind) (set_weight-zero op.kind) A B z

-- ---- parts

set_factors : (side : Side) (x k : Row) → at (set_keys side x) k ≢ zero_ratio → at (set_keys side x) k ≡ one_ratio
set_factors side x k h = (weighed_row x one_ratio k h).0

-- the part of a key has the row of that key alone, with its weight
at-part : (side : Side) (k : Row) (A : Dataset) (z : Row) → at (part_of (set_keys side) k A) z ≡ cond (same_row k z) (at A z) zero_ratio
at-part side k A z = at-part_of (set_keys side) k A z ∙ ap (ratio_mul (at A z)) (at-one_row z one_ratio k) ∙ chosen (same_row k z)
  where
    chosen : (b : Bool) → ratio_mul (at A z) (cond b one_ratio zero_ratio) ≡ cond b (at A z) zero_ratio
    chosen true = ratio_mul_one (at A z)
    chosen false = ratio_mul_zero (at A z)

part_has_only : (side : Side) (k : Row) (A : Dataset) → HasOnly k (part_of (set_keys side) k A)
part_has_only side k A z h = sym (weighed_row z one_ratio k (factor-in_part (set_keys side) k A z h)).1

pub set_takes_parts : (A B : Dataset) (k : Row) → BothHaveOnly k (part_of (set_keys Left) k A) (part_of (set_keys Right) k B)
set_takes_parts A B k = (part_has_only Left k A, part_has_only Right k B)

pub set_takes_rows : (cols : List Kind) (A B : Dataset) (x : Row) → HasColumns cols A × HasColumns cols B → (at A x ≢ zero_ratio → kinds_of x ≡ cols) × (at B x ≢ zero_ratio → kinds_of x ≡ cols)
set_takes_rows cols A B x h = (at-weighed (λ x. kinds_of x ≡ cols) A x h.0, at-weighed (λ x. kinds_of x ≡ cols) B x h.1)

-- ---- the output at a key

-- a row that isn't k has no weight
none_elsewhere : (k : Row) (A : Dataset) → HasOnly k A → (z : Row) → same_row z k ≡ false → at A z ≡ zero_ratio
none_elsewhere k A only z other =
    elim (is_zero (at A z)) as (λ b. is_zero (at A z) ≡ b → at A z ≡ zero_ratio) [
      | true ↦ λ e. zero_if_is_zero (at A z) e
      | false ↦ λ e. absurd (true≢false (sym (same_row-itself k) ∙ ap (λ x. same_row x k) (sym (only z (other_if_not_is_zero (at A z) e))) ∙ other))
    ] refl

-- the parts of a key give that key, with the weight from its two weights
pub set_output-one : (op : SetParts) (k : Row) (A B : Dataset) → BothHaveOnly k A B → set_output op A B ≡ one_row k (set_weight op.kind (at A k) (at B k))
set_output-one op k A B only =
    let w = set_weight op.kind (at A k) (at B k) in
    same_weights (set_output op A B) (one_row k w) (λ z.
    at-set_output op A B z ∙ chosen z (same_row z k) (same_row-equal z k) (none_elsewhere k A only.0 z) (none_elsewhere k B only.1 z) ∙ sym (at-one_row k w z))
  where
    chosen : (z : Row) (b : Bool) → (b ≡ true → z ≡ k) → (b ≡ false → at A z ≡ zero_ratio) → (b ≡ false → at B z ≡ zero_ratio)
        → set_weight op.kind (at A z) (at B z) ≡ cond b (set_weight op.kind (at A k) (at B k)) zero_ratio
    chosen z true same none_left none_right = ap (λ x. set_weight op.kind (at A x) (at B x)) (same refl)
    chosen z false same none_left none_right = ap₂ (set_weight op.kind) (none_left refl) (none_right refl) ∙ set_weight-zero op.kind

pub set_owned : (op : SetParts) (k : Row) (A B : Dataset) (z : Row) → BothHaveOnly k A B → at (set_output op A B) z ≢ zero_ratio → z ≡ k
set_owned op k A B z only h =
    let w = set_weight op.kind (at A k) (at B k) in
    (weighed_row k w z (λ none. h (ap (λ C. at C z) (set_output-one op k A B only) ∙ none))).1

pub set_together : (op : SetParts) (A B : Dataset) (z : Row) → at (set_output op A B) z ≡ at (set_output op (part_of (set_keys Left) z A) (part_of (set_keys Right) z B)) z
set_together op A B z =
    at-set_output op A B z
    ∙ ap₂ (set_weight op.kind) (own Left A) (own Right B)
    ∙ sym (at-set_output op (part_of (set_keys Left) z A) (part_of (set_keys Right) z B) z)
  where
    own : (side : Side) (C : Dataset) → at C z ≡ at (part_of (set_keys side) z C) z
    own side C = sym (at-part side z C z ∙ ap (λ b. cond b (at C z) zero_ratio) (same_row-itself z))

-- ---- what fits

-- the parts of a key give a weight in range where the inputs give no other
part_in_range : (op : SetParts) (A B : Dataset) (k : Row) → AllInRange (set_output op A B) → AllInRange (set_output op (part_of (set_keys Left) k A) (part_of (set_keys Right) k B))
part_in_range op A B k h z =
    subst InRange
    (sym (at-set_output op (part_of (set_keys Left) k A) (part_of (set_keys Right) k B) z ∙ ap₂ (set_weight op.kind) (at-part Left k A z) (at-part Right k B z)))
    (chosen (same_row k z))
  where
    chosen : (b : Bool) → InRange (set_weight op.kind (cond b (at A z) zero_ratio) (cond b (at B z) zero_ratio))
    chosen true = subst InRange (at-set_output op A B z) (h z)
    chosen false = subst InRange (sym (set_weight-zero op.kind)) InRange-zero

pub set_fits_by_part : (op : SetParts) (A B : Dataset) → AllInRange A → AllInRange B →
    (set_fits op A B ≡ true) ↔ (FactoredInRange (set_keys Left) A × FactoredInRange (set_keys Right) B × ((k : Row) → set_fits op (part_of (set_keys Left) k A) (part_of (set_keys Right) k B) ≡ true))
set_fits_by_part op A B a b = (
  λ fits. (
    FactoredInRange-ones (set_keys Left) (set_factors Left) InRange-zero A a,
    FactoredInRange-ones (set_keys Right) (set_factors Right) InRange-zero B b,
    λ k. weights_in_range-all (set_output op (part_of (set_keys Left) k A) (part_of (set_keys Right) k B)) (part_in_range op A B k (AllInRange-tested (set_output op A B) fits)),
  ),
  λ h. weights_in_range-all (set_output op A B) (λ z.
      subst InRange (sym (set_together op A B z)) (AllInRange-tested (set_output op (part_of (set_keys Left) z A) (part_of (set_keys Right) z B)) (h.2 z) z)),
)
