-- The levels of a dataset fall, and are the weights that occur.
use Rattle.std.specs.List.{AllByRecursion}
use Rattle.std.specs.List.Sorted.{IsStrictlySortedBy}
use Rattle.std.specs.Ordering.{match_ordering, ordering_reverse}
use Rattle.std.specs.Prelude.{◌≡◌, ◌⊎◌, List, [], ◌∷◌, Contains, map, refl}
use Rattle.std.specs.declared.cmp.Ordering.TheVariants.{Less, Equal, Greater}
use Rattle.std.proofs.Common.{arith, inl, inr, sym, ap, ◌∙◌}
use Rattle.std.proofs.lemmas.List.Elements.{All-contains, All-contains_itself, All-from_recursion, Contains-append_right, recursion_from_All}
use Rattle.ratios.specs.Ratio.{Ratio, ratio_cmp}
use Rattle.ratios.proofs.Order.{ratio_cmp_total, same_from_tie}
use Rattle.datasets.specs.Dataset.{at, rows}
use Rattle.datasets.proofs.Members.{AllByRecursion-weaker}
use Rattle.operators.specs.Laws.{LevelsAreWeights, LevelsFall}
use Rattle.operators.specs.Operators.{with_level, with_levels}
use Rattle.operators.proofs.Levels.{AllByRecursion-with_level, AllByRecursion-with_levels}
use Rattle.ratios.proofs.Falling.{AreFalling, Has, IsUnder, under_trans}

-- ---- they fall

AreFalling-with_level : (t : Ratio) (us : List Ratio) → AreFalling us → AreFalling (with_level t us)
unfolding IsStrictlySortedBy
AreFalling-with_level t [] h = (tt, tt)
AreFalling-with_level t (u ∷ us) h =
    elim (ratio_cmp t u) as (λ o. ratio_cmp t u ≡ o → AreFalling (match_ordering o (u ∷ with_level t us) (u ∷ us) (t ∷ u ∷ us))) [
      | Less ↦ λ p. (AllByRecursion-with_level (IsUnder u) t us p h.0, AreFalling-with_level t us h.1)
      | Equal ↦ λ p. h
      | Greater ↦ λ p.
          let below = ratio_cmp_total.antisymm u t ∙ ap ordering_reverse p in
          ((below, AllByRecursion-weaker (IsUnder u) (IsUnder t) us (λ v less. under_trans t u v below less) h.0), h)
    ] refl

pub AreFalling-with_levels : (ts : List Ratio) → AreFalling (with_levels ts)
unfolding IsStrictlySortedBy
AreFalling-with_levels [] = tt
AreFalling-with_levels (t ∷ ts) = AreFalling-with_level t (with_levels ts) (AreFalling-with_levels ts)

pub levels_fall : LevelsFall
levels_fall P = AreFalling-with_levels (map (at P) (rows P))

-- ---- they are the weights

Has-with_level_itself : (t : Ratio) (us : List Ratio) → Has (with_level t us) t
Has-with_level_itself t [] = inl refl
Has-with_level_itself t (u ∷ us) =
    elim (ratio_cmp t u) as (λ o. ratio_cmp t u ≡ o → Has (match_ordering o (u ∷ with_level t us) (u ∷ us) (t ∷ u ∷ us)) t) [
      | Less ↦ λ p. inr (Has-with_level_itself t us)
      | Equal ↦ λ p. inl (same_from_tie t u p)
      | Greater ↦ λ p. inl refl
    ] refl

Has-with_level : (t : Ratio) (us : List Ratio) (v : Ratio) → Has us v → Has (with_level t us) v
Has-with_level t [] v h = absurd h
Has-with_level t (u ∷ us) v h =
    elim (ratio_cmp t u) as (λ o. Has (match_ordering o (u ∷ with_level t us) (u ∷ us) (t ∷ u ∷ us)) v) [
      | Less ↦ below h (Has-with_level t us v)
      | Equal ↦ h
      | Greater ↦ inr h
    ]
  where
    below : (v ≡ u) ⊎ Has us v → (Has us v → Has (with_level t us) v) → (v ≡ u) ⊎ Has (with_level t us) v
    below (inl e) more = inl e
    below (inr k) more = inr (more k)

pub Has-with_levels : (ts : List Ratio) → AllByRecursion (Has (with_levels ts)) ts
Has-with_levels [] = tt
Has-with_levels (t ∷ ts) =
    (Has-with_level_itself t (with_levels ts), AllByRecursion-weaker (Has (with_levels ts)) (Has (with_level t (with_levels ts))) ts (Has-with_level t (with_levels ts)) (Has-with_levels ts))

Contains-from_Has : (ts : List Ratio) (t : Ratio) → Has ts t → Contains ts t
Contains-from_Has [] t h = absurd h
Contains-from_Has (u ∷ us) t (inl e) = (0, omega arith, sym e)
Contains-from_Has (u ∷ us) t (inr h) = Contains-append_right (u ∷ []) us t (Contains-from_Has us t h)

pub levels_are_weights : LevelsAreWeights
levels_are_weights P t =
    let ws = map (at P) (rows P) in (
      All-contains (Contains ws) (with_levels ws) t (All-from_recursion (Contains ws) (with_levels ws) (AllByRecursion-with_levels (Contains ws) ws (recursion_from_All (Contains ws) ws (All-contains_itself ws)))),
      All-contains (Contains (with_levels ws)) ws t (All-from_recursion (Contains (with_levels ws)) ws (AllByRecursion-weaker (Has (with_levels ws)) (Contains (with_levels ws)) ws (Contains-from_Has (with_levels ws)) (Has-with_levels ws))),
    )
