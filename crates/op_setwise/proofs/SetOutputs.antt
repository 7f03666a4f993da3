-- The output at a key, from the two weights of the key.
use Rattle.std.specs.Prelude.{◌≡◌, true, false, cond, [], ◌∷◌, Some, None, refl}
use Rattle.std.specs.Ordering.{is_le, is_lt, ord_max, ord_min, ordering_reverse}
use Rattle.std.specs.declared.cmp.Ordering.TheVariants.{Less, Equal, Greater}
use Rattle.std.proofs.Common.{sym, ap, ap₂, subst, ◌∙◌}
use Rattle.std.proofs.lemmas.Bool.{false_from_ne_true}
use Rattle.ratios.specs.Range.{InRange}
use Rattle.ratios.specs.Ratio.{Ratio, ratio_add, ratio_cmp, ratio_max, ratio_min, ratio_sub, zero_ratio}
use Rattle.ratios.proofs.Order.{ratio_cmp_total}
use Rattle.ratios.proofs.Range.{checked_none, checked_some}
use Rattle.datasets.specs.Dataset.{Dataset, at, dataset_of, empty}
use Rattle.datasets.specs.Entries.{Row, is_zero}
use Rattle.datasets.proofs.Rows.{same_row-itself}
use Rattle.operators.specs.InRange.{weights_in_range}
use Rattle.plan_model.specs.Evaluation.{set_weight}
use Rattle.plan_model.specs.declared.step.SetKind.{SetKind}
use Rattle.weighted_set.specs.Held.{AllInRange}
use Rattle.weighted_set.proofs.Sets.{AllInRange-empty, AllInRange-set_at}
use Rattle.op_parts.specs.OneRow.{one_row}
use Rattle.op_parts.proofs.OneRows.{at-one_row, entries-one_row}
use Rattle.op_parts.proofs.Ranges.{AllInRange-tested, weights_in_range-all}
use Rattle.op_setwise.specs.Setwise.{BothHaveOnly, SetParts, checked_weight, set_fits, set_output}
use Rattle.op_setwise.specs.SetLaws.{set_output-one}

-- ---- the weight from two weights

pub checked_weight-some : (kind : SetKind) (a b w : Ratio) → Some w ≡ checked_weight kind a b → w ≡ set_weight kind a b
checked_weight-some SetKind.Union a b w e = cc
checked_weight-some SetKind.Intersect a b w e = cc
checked_weight-some SetKind.Concat a b w e = (checked_some (ratio_add a b) w (sym e)).1
checked_weight-some SetKind.Except a b w e = (checked_some (ratio_sub a b) w (sym e)).1

pub checked_weight-none : (kind : SetKind) (a b : Ratio) → None ≡ checked_weight kind a b → ¬ (InRange (set_weight kind a b))
checked_weight-none SetKind.Union a b e = absurd cc
checked_weight-none SetKind.Intersect a b e = absurd cc
checked_weight-none SetKind.Concat a b e = checked_none (ratio_add a b) (sym e)
checked_weight-none SetKind.Except a b e = checked_none (ratio_sub a b) (sym e)

-- the weight that is answered for two weights is that of the key
pub weight-answered : (op : SetParts) (k : Row) (A B : Dataset) (kind : SetKind) (a b w : Ratio) → kind ≡ op.kind → a ≡ at A k → b ≡ at B k → Some w ≡ checked_weight kind a b → w ≡ set_weight op.kind (at A k) (at B k)
weight-answered op k A B kind a b w of_kind left right e = checked_weight-some kind a b w e ∙ ap (λ s. set_weight s a b) of_kind ∙ ap₂ (set_weight op.kind) left right

-- where none is answered, it is out of range
pub weight-unanswered : (op : SetParts) (k : Row) (A B : Dataset) (kind : SetKind) (a b : Ratio) → kind ≡ op.kind → a ≡ at A k → b ≡ at B k → None ≡ checked_weight kind a b → ¬ (InRange (set_weight op.kind (at A k) (at B k)))
weight-unanswered op k A B kind a b of_kind left right e h = checked_weight-none kind a b e (subst InRange (sym (ap (λ s. set_weight s a b) of_kind ∙ ap₂ (set_weight op.kind) left right)) h)

-- the greater and the less of two, as std says them
pub ord_max-ratio_max : (a b : Ratio) → ord_max ratio_cmp a b ≡ ratio_max a b
ord_max-ratio_max a b =
    ap (λ o. cond (is_lt o) a b) (ratio_cmp_total.antisymm b a)
    ∙ elim (ratio_cmp a b) as (λ o. cond (is_lt (ordering_reverse o)) a b ≡ cond (is_le o) b a) [ Less ↦ refl | Equal ↦ refl | Greater ↦ refl ]

pub ord_min-ratio_min : (a b : Ratio) → ord_min ratio_cmp a b ≡ ratio_min a b
ord_min-ratio_min a b =
    ap (λ o. cond (is_lt o) b a) (ratio_cmp_total.antisymm b a)
    ∙ elim (ratio_cmp a b) as (λ o. cond (is_lt (ordering_reverse o)) b a ≡ cond (is_le o) a b) [ Less ↦ refl | Equal ↦ refl | Greater ↦ refl ]

-- ---- the output at a key

module _ (op : SetParts) (k : Row) (A B : Dataset) (only : BothHaveOnly k A B) (w : Ratio) (is : w ≡ set_weight op.kind (at A k) (at B k)) where
  output_is : set_output op A B ≡ one_row k w
  output_is = set_output-one op k A B only ∙ ap (one_row k) (sym is)

  pub output-entries : (set_output op A B).entries ≡ cond (is_zero w) [] ((k, w) ∷ [])
  output-entries = ap (λ (C : Dataset). C.entries) output_is ∙ entries-one_row k w

  pub output-some : is_zero w ≡ false → (set_output op A B).entries ≡ (k, w) ∷ []
  output-some e = output-entries ∙ ap (λ b. cond b [] ((k, w) ∷ [])) e

  pub output-none : is_zero w ≡ true → (set_output op A B).entries ≡ []
  output-none e = output-entries ∙ ap (λ b. cond b [] ((k, w) ∷ [])) e

  one_in_range : InRange w → AllInRange (one_row k w)
  unfolding dataset_of
  one_in_range h = AllInRange-set_at k w empty h AllInRange-empty

  pub output-fits : InRange w → set_fits op A B ≡ true
  output-fits h = ap weights_in_range output_is ∙ weights_in_range-all (one_row k w) (one_in_range h)

  pub output-misfits : ¬ (InRange w) → set_fits op A B ≡ false
  output-misfits n =
      false_from_ne_true (set_fits op A B) (λ fits.
      n (subst InRange (at-one_row k w k ∙ ap (λ b. cond b w zero_ratio) (same_row-itself k)) (AllInRange-tested (one_row k w) (ap weights_in_range (sym output_is) ∙ fits) k)))
