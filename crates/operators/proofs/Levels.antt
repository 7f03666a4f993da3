-- The levels of a dataset are weights that occur.
use Rattle.std.specs.Prelude.{◌≢◌, true, false, cond, filter, List, [], ◌∷◌, map}
use Rattle.std.specs.List.{AllByRecursion}
use Rattle.std.specs.Ordering.{match_ordering}
use Rattle.std.specs.declared.cmp.Ordering.TheVariants.{Less, Equal, Greater}
use Rattle.std.proofs.Common.{subst, sym}
use Rattle.ratios.specs.Ratio.{Ratio, is_at_most, ratio_cmp}
use Rattle.ratios.proofs.AtMost.{at_most_itself}
use Rattle.datasets.specs.Dataset.{Dataset, at, rows}
use Rattle.datasets.specs.Entries.{Row}
use Rattle.datasets.proofs.Members.{AllByRecursion-everywhere, AllByRecursion-map, AllByRecursion-weaker}
use Rattle.operators.specs.Operators.{levels, top, with_level, with_levels}

pub AllByRecursion-with_level : (P : Ratio → Type 0) (t : Ratio) (us : List Ratio) → P t → AllByRecursion P us → AllByRecursion P (with_level t us)
AllByRecursion-with_level P t [] p h = (p, tt)
AllByRecursion-with_level P t (u ∷ us) p h =
    elim (ratio_cmp t u) as (λ o. AllByRecursion P (match_ordering o (u ∷ with_level t us) (u ∷ us) (t ∷ u ∷ us))) [ Less ↦ (h.0, AllByRecursion-with_level P t us p h.1) | Equal ↦ h | Greater ↦ (p, h) ]

pub AllByRecursion-with_levels : (P : Ratio → Type 0) (ts : List Ratio) → AllByRecursion P ts → AllByRecursion P (with_levels ts)
AllByRecursion-with_levels P [] h = tt
AllByRecursion-with_levels P (t ∷ ts) h = AllByRecursion-with_level P t (with_levels ts) h.0 (AllByRecursion-with_levels P ts h.1)

-- what holds of every weight holds of every level
pub AllByRecursion-levels : (P : Ratio → Type 0) (A : Dataset) → ((x : Row) → P (at A x)) → AllByRecursion P (levels A)
AllByRecursion-levels P A h = AllByRecursion-with_levels P (map (at A) (rows A)) (AllByRecursion-map P (at A) (rows A) (AllByRecursion-everywhere (λ x. P (at A x)) (rows A) h))

-- ---- each level has a row of at least that weight

module _ (weight : Row → Ratio) where
  abbrev above : Ratio → List Row → List Row
  above t xs = filter (λ x. is_at_most t (weight x)) xs

  not_empty_first : (x : Row) (xs : List Row) → above (weight x) (x ∷ xs) ≢ []
  not_empty_first x xs = subst (λ b. cond b (x ∷ above (weight x) xs) (above (weight x) xs) ≢ []) (sym (at_most_itself (weight x))) (λ e. cc)

  not_empty_more : (t : Ratio) (x : Row) (xs : List Row) → above t xs ≢ [] → above t (x ∷ xs) ≢ []
  not_empty_more t x xs h = elim (is_at_most t (weight x)) as (λ b. cond b (x ∷ above t xs) (above t xs) ≢ []) [ true ↦ λ e. cc | false ↦ h ]

  not_empty : (xs : List Row) → AllByRecursion (λ t. above t xs ≢ []) (with_levels (map weight xs))
  not_empty [] = tt
  not_empty (x ∷ xs) =
      AllByRecursion-with_level (λ t. above t (x ∷ xs) ≢ []) (weight x) (with_levels (map weight xs)) (not_empty_first x xs)
      (AllByRecursion-weaker (λ t. above t xs ≢ []) (λ t. above t (x ∷ xs) ≢ []) (with_levels (map weight xs)) (λ t. not_empty_more t x xs) (not_empty xs))

pub levels_have_tops : (A : Dataset) → AllByRecursion (λ t. top A t ≢ []) (levels A)
levels_have_tops A = not_empty (at A) (rows A)
