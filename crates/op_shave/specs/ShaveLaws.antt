-- The laws of Shave.
use Rattle.std.specs.Prelude.{◌≡◌, ◌≢◌, ◌↔◌, true, false, cond, List, refl}
use Rattle.std.proofs.Common.{sym, ap, subst, ◌∙◌}
use Rattle.std.proofs.lemmas.Bool.{and_from, and_parts}
use Rattle.ratios.specs.Range.{InRange}
use Rattle.ratios.specs.Ratio.{Ratio, one_ratio, ratio_mul, zero_ratio}
use Rattle.ratios.proofs.Products.{ratio_mul_one}
use Rattle.record_text.specs.KindLists.{kinds_of}
use Rattle.record_text.specs.declared.kinds.Kind.{Kind}
use Rattle.datasets.specs.Dataset.{Dataset, at, rows}
use Rattle.datasets.specs.Entries.{Row, is_zero}
use Rattle.datasets.proofs.Rows.{other_if_not_is_zero, same_row-itself, zero_if_is_zero}
use Rattle.datasets.proofs.Weights.{at-empty}
use Rattle.operators.specs.InRange.{shave_in_range, weights_in_range}
use Rattle.operators.specs.Operators.{shaved}
use Rattle.operators.proofs.OutputRows.{AllRows-shaved}
use Rattle.operators.proofs.SingleWeights.{AllByRecursion-has_row}
use Rattle.plan_model.specs.Types.{HasColumns}
use Rattle.weighted_set.specs.Held.{AllInRange}
use Rattle.weighted_set.specs.Parts.{FactoredInRange, part_of}
use Rattle.weighted_set.specs.declared.part_op.Side.{Side}
use Rattle.weighted_set.specs.declared.part_op.Side.TheVariants.{Left, Right}
use Rattle.weighted_set.proofs.Parts.{FactoredInRange-ones, at-part_of, at-present}
use Rattle.weighted_set.proofs.Sets.{InRange-zero}
use Rattle.op_parts.specs.Takes.{HasOnly}
use Rattle.op_parts.proofs.Members.{at-weighed}
use Rattle.op_parts.proofs.OneRows.{at-one_row, factor-in_part, weighed_row}
use Rattle.op_parts.proofs.Ranges.{AllInRange-tested, weights_in_range-all}
use Rattle.op_shave.specs.Cells.{row_in_range, same_shaved, shave_in_range-each, shave_in_range-tested, without_last-numbered}
use Rattle.op_shave.specs.Shave.{shave_fits, shave_keys, without_last}

-- ---- the part of a key
abbrev own_part : Row → Dataset → Dataset
own_part k A = part_of (shave_keys Left) k A

-- its row has its own weight
at-own_part : (A : Dataset) (k : Row) → at A k ≡ at (own_part k A) k
at-own_part A k =
    sym (at-part_of (shave_keys Left) k A k ∙ ap (ratio_mul (at A k)) (at-one_row k one_ratio k ∙ ap (λ b. cond b one_ratio zero_ratio) (same_row-itself k)) ∙ ratio_mul_one (at A k))

-- so does each row with a weight, and it is the key
weighed_own : (A : Dataset) (k x : Row) → at (own_part k A) x ≢ zero_ratio → (at (own_part k A) x ≡ at A x) × (x ≡ k)
weighed_own A k x weighed =
    let own = weighed_row x one_ratio k (factor-in_part (shave_keys Left) k A x weighed) in
    (at-part_of (shave_keys Left) k A x ∙ ap (ratio_mul (at A x)) own.0 ∙ ratio_mul_one (at A x), sym own.1)

pub shave_takes_part : (cols : List Kind) (k : Row) (A : Dataset) → HasColumns cols A → HasOnly k (own_part k A) × HasColumns cols (own_part k A)
shave_takes_part cols k A h = (
  λ x weighed. (weighed_own A k x weighed).1,
  AllByRecursion-has_row (λ x. kinds_of x ≡ cols) (rows (own_part k A)) (λ x there.
      let weighed = at-present (own_part k A) x there in
      at-weighed (λ x. kinds_of x ≡ cols) A x h (λ none. weighed ((weighed_own A k x weighed).0 ∙ none))),
)

shave_factors : (side : Side) (x k : Row) → at (shave_keys side x) k ≢ zero_ratio → at (shave_keys side x) k ≡ one_ratio
shave_factors Left x k h = (weighed_row x one_ratio k h).0
shave_factors Right x k h = absurd (h (at-empty k))

-- ---- outputs
pub shaved_owned : (fs : List Ratio) (k : Row) (A : Dataset) (z : Row) → HasOnly k A → at (shaved fs A) z ≢ zero_ratio → without_last z ≡ k
shaved_owned fs k A z only weighed =
    let own = AllByRecursion-has_row (λ x. x ≡ k) (rows A) (λ x there. only x (at-present A x there)) in
    at-weighed (λ z. without_last z ≡ k) (shaved fs A) z (AllRows-shaved (λ x. x ≡ k) (λ z. without_last z ≡ k) fs A (λ x i below e. without_last-numbered x i ∙ e) own) weighed

pub shave_together : (fs : List Ratio) (A : Dataset) (z : Row) → at (shaved fs A) z ≡ at (shaved fs (own_part (without_last z) A)) z
shave_together fs A z = same_shaved fs A (own_part (without_last z) A) z (at-own_part A (without_last z))

-- ---- range

-- an output weight of a part is one of the whole, or 0
part_in_range : (fs : List Ratio) (A : Dataset) (k : Row) → AllInRange (shaved fs A) → AllInRange (shaved fs (own_part k A))
part_in_range fs A k h z =
    let P = own_part k A in
    elim (is_zero (at (shaved fs P) z)) as (λ b. is_zero (at (shaved fs P) z) ≡ b → InRange (at (shaved fs P) z)) [
      | true ↦ λ e. subst InRange (sym (zero_if_is_zero (at (shaved fs P) z) e)) InRange-zero
      | false ↦ λ e.
          let own = shaved_owned fs k P z (λ x weighed. (weighed_own A k x weighed).1) (other_if_not_is_zero (at (shaved fs P) z) e) in
          subst InRange (shave_together fs A z ∙ ap (λ k. at (shaved fs (own_part k A)) z) own) (h z)
    ] refl

pub shave_fits_by_part : (fs : List Ratio) (A B : Dataset) → AllInRange A → AllInRange B →
    (shave_fits fs A ≡ true) ↔ (FactoredInRange (shave_keys Left) A × FactoredInRange (shave_keys Right) B × ((k : Row) → shave_fits fs (own_part k A) ≡ true))
shave_fits_by_part fs A B a b = (
  λ fits. (FactoredInRange-ones (shave_keys Left) (shave_factors Left) InRange-zero A a, FactoredInRange-ones (shave_keys Right) (shave_factors Right) InRange-zero B b, parts fits),
  λ h. whole h.2,
)
  where
    parts : shave_fits fs A ≡ true → (k : Row) → shave_fits fs (own_part k A) ≡ true
    parts fits k =
        let P = own_part k A in
        let h = and_parts (shave_in_range fs A) (weights_in_range (shaved fs A)) fits in
        and_from (shave_in_range fs P) (weights_in_range (shaved fs P))
        (shave_in_range-each fs P (λ x weighed.
        let own = weighed_own A k x weighed in
        subst (λ w. row_in_range fs w ≡ true) (sym own.0) (shave_in_range-tested fs A h.0 x (λ none. weighed (own.0 ∙ none)))))
        (weights_in_range-all (shaved fs P) (part_in_range fs A k (AllInRange-tested (shaved fs A) h.1)))

    whole : ((k : Row) → shave_fits fs (own_part k A) ≡ true) → shave_fits fs A ≡ true
    whole h =
        let part = λ (k : Row). and_parts (shave_in_range fs (own_part k A)) (weights_in_range (shaved fs (own_part k A))) (h k) in
        and_from (shave_in_range fs A) (weights_in_range (shaved fs A))
        (shave_in_range-each fs A (λ x weighed.
        let own = at-own_part A x in
        subst (λ w. row_in_range fs w ≡ true) (sym own) (shave_in_range-tested fs (own_part x A) (part x).0 x (λ none. weighed (own ∙ none)))))
        (weights_in_range-all (shaved fs A) (λ z. subst InRange (sym (shave_together fs A z)) (AllInRange-tested (shaved fs (own_part (without_last z) A)) (part (without_last z)).1 z)))

pub shave_output_in_range : (fs : List Ratio) (A : Dataset) → shave_fits fs A ≡ true → AllInRange (shaved fs A)
shave_output_in_range fs A fits = AllInRange-tested (shaved fs A) (and_parts (shave_in_range fs A) (weights_in_range (shaved fs A)) fits).1
