-- The weights of a group, as a sum over any keys and thresholds that cover its own.
use Rattle.std.specs.List.{AllByRecursion}
use Rattle.std.specs.Prelude.{◌≡◌, ◌≢◌, ◌&&◌, ◌||◌, Bool, true, false, List, [], ◌∷◌, ◌++◌, map, refl}
use Rattle.std.proofs.Common.{sym, ap, ap₂, subst, ◌∙◌, true≢false}
use Rattle.std.proofs.Math.Bool.{and-false}
use Rattle.std.proofs.lemmas.List.Kept.{IsStrictlySortedBy-filter}
use Rattle.ratios.specs.Ratio.{Ratio, is_at_most, ratio_add, ratio_half, zero_ratio}
use Rattle.ratios.specs.Sums.{ratio_sum}
use Rattle.ratios.proofs.Additive.{ratio_add_zero}
use Rattle.ratios.proofs.Falling.{AreFalling, Has}
use Rattle.ratios.proofs.Totals.{only, total, total-cons, total-filter, total-same, total-same_all}
use Rattle.record_text.specs.Order.{row_cmp}
use Rattle.record_text.specs.declared.atom.Atom.{Atom}
use Rattle.datasets.specs.Dataset.{Dataset, at, rows}
use Rattle.datasets.specs.Entries.{AreRising, Row, has_row, same_row}
use Rattle.datasets.proofs.Members.{AllByRecursion-map, AllByRecursion-weaker}
use Rattle.datasets.proofs.Picks.{total-within}
use Rattle.datasets.proofs.Rising.{AreRising-none, none_there}
use Rattle.datasets.proofs.RowLists.{AreRising-with_rows, has_row-filter, has_row-with_rows}
use Rattle.datasets.proofs.Rows.{same_row-equal, same_row-itself}
use Rattle.datasets.proofs.Weights.{at-absent, at-present, there_if_weighed}
use Rattle.operators.specs.Operators.{down_to, group_row, grouped, half_gap, key_levels, keys, levels, part, top}
use Rattle.operators.specs.Weights.{weights_for}
use Rattle.operators.proofs.Gathered.{at-gathered, ratio_sum-pairs}
use Rattle.operators.proofs.LevelOrder.{Has-with_levels, levels_fall}
use Rattle.operators.proofs.Levels.{AllByRecursion-with_levels, levels_have_tops}
use Rattle.operators.proofs.SingleWeights.{AllByRecursion-has_row}
use Rattle.operators.proofs.Tabulated.{at-filtered}
use Rattle.stability_laws.proofs.Between.{IsAboveZero}
use Rattle.stability_laws.proofs.Cuts.{cut_total, cut_total-refined, cuts, gaps_are_cuts, step_value}
use Rattle.stability_laws.proofs.Tops.{gives_in_steps}

-- ---- the rows at or above a threshold

-- above 0, they are the rows whose weight is
pub has_row-top : (P : Dataset) (t : Ratio) (z : Row) → IsAboveZero t → has_row (top P t) z ≡ is_at_most t (at P z)
has_row-top P t z above =
    has_row-filter (λ x. is_at_most t (at P x)) (rows P) z
    ∙ elim (has_row (rows P) z) as (λ b. has_row (rows P) z ≡ b → (is_at_most t (at P z) && b) ≡ is_at_most t (at P z)) [
      | true ↦ λ e. and_true (is_at_most t (at P z))
      | false ↦ λ e. and-false (is_at_most t (at P z)) ∙ sym (ap (is_at_most t) (at-absent P z e) ∙ above)
    ] refl
  where
    and_true : (b : Bool) → (b && true) ≡ b
    and_true true = refl
    and_true false = refl

pub AreRising-top : (P : Dataset) (t : Ratio) → AreRising (top P t)
AreRising-top P t = IsStrictlySortedBy-filter row_cmp (λ x. is_at_most t (at P x)) (rows P) P.rising

-- ---- what a key's rows give

-- rows with the key k give the row z: k followed by what they are reduced to, and no row where there are none
abbrev pub gives : (List Row → Atom) → Row → Row → List Row → Bool
gives reduce k z [] = false
gives reduce k z (y ∷ ys) = same_row z (k ++ reduce (y ∷ ys) ∷ [])

gives-some : (reduce : List Row → Atom) (k z : Row) (ys : List Row) → ys ≢ [] → same_row z (k ++ reduce ys ∷ []) ≡ gives reduce k z ys
gives-some reduce k z [] h = absurd (h refl)
gives-some reduce k z (y ∷ ys) h = refl

-- the levels hold each weight
weights_among_levels : (P : Dataset) → AllByRecursion (λ x. Has (levels P) (at P x)) (rows P)
weights_among_levels P = unmap (rows P) (Has-with_levels (map (at P) (rows P)))
  where
    unmap : (xs : List Row) → AllByRecursion (Has (levels P)) (map (at P) xs) → AllByRecursion (λ x. Has (levels P) (at P x)) xs
    unmap [] h = tt
    unmap (x ∷ xs) h = (h.0, unmap xs h.1)

-- ---- the rows with a key

module _ (key : Row → Row) (A : Dataset) where
  pub at-part : (k x : Row) → at (part key k A) x ≡ only (same_row k (key x)) (at A x)
  at-part k x = at-filtered (λ x. same_row k (key x)) A x

  in_map : (x : Row) (xs : List Row) → has_row xs x ≡ true → has_row (map key xs) (key x) ≡ true
  in_map x [] h = h
  in_map x (y ∷ ys) h =
      elim (same_row x y) as (λ b. same_row x y ≡ b → (b || has_row ys x) ≡ true → (same_row (key x) (key y) || has_row (map key ys) (key x)) ≡ true) [
        | true ↦ λ e k. ap (λ b. b || has_row (map key ys) (key x)) (ap (λ y. same_row (key x) (key y)) (sym (same_row-equal x y e)) ∙ same_row-itself (key x))
        | false ↦ λ e k. elim (same_row (key x) (key y)) as (λ b. (b || has_row (map key ys) (key x)) ≡ true) [ true ↦ refl | false ↦ in_map x ys k ]
      ] refl h

  -- the key of each row is there
  has_key : (x : Row) → at A x ≢ zero_ratio → has_row (keys key A) (key x) ≡ true
  has_key x weighed = has_row-with_rows (map key (rows A)) [] (key x) ∙ ap (λ b. b || false) (in_map x (rows A) (there_if_weighed A x weighed))

  pub AreRising-keys : AreRising (keys key A)
  AreRising-keys = AreRising-with_rows (map key (rows A)) [] AreRising-none

  -- a key that is not there has no rows
  no_weight : (k z : Row) → has_row (keys key A) k ≡ false → at (part key k A) z ≡ zero_ratio
  no_weight k z absent = at-part k z ∙ by_test (same_row k (key z)) refl (has_row (rows A) z) refl
    where
      by_test : (b : Bool) → same_row k (key z) ≡ b → (c : Bool) → has_row (rows A) z ≡ c → only b (at A z) ≡ zero_ratio
      by_test false e c f = refl
      by_test true e false f = at-absent A z f
      by_test true e true f = absurd (true≢false (sym (has_key z (at-present A z f)) ∙ ap (has_row (keys key A)) (sym (same_row-equal k (key z) e)) ∙ absent))

  no_rows : (k : Row) → has_row (keys key A) k ≡ false → (t : Ratio) → IsAboveZero t → top (part key k A) t ≡ []
  no_rows k absent t positive =
      none_there (top (part key k A) t) (λ z. has_row-top (part key k A) t z positive ∙ ap (is_at_most t) (no_weight k z absent) ∙ positive)

module _ (key : Row → Row) (reduce : List Row → Atom) (A : Dataset) where
  abbrev of_key : Row → Dataset
  of_key k = part key k A

  -- whether the rows with the key k and a weight of at least t give z
  abbrev pub gives_above : Row → Row → Ratio → Bool
  gives_above k z t = gives reduce k z (top (part key k A) t)

  own_levels : (k z : Row) → ratio_sum (weights_for (λ t. group_row key reduce A (k, t)) (λ t. half_gap key A (k, t)) (levels (of_key k)) z) ≡ cut_total (gives_above k z) (levels (of_key k))
  own_levels k z =
      let ls = levels (of_key k) in
      total-filter (λ t. same_row z (group_row key reduce A (k, t))) (λ t. half_gap key A (k, t)) ls
      ∙ total-same_all (λ t. only (same_row z (group_row key reduce A (k, t))) (half_gap key A (k, t))) (λ t. only (gives_above k z t) (half_gap key A (k, t))) ls
      (AllByRecursion-weaker (λ t. top (of_key k) t ≢ []) (λ t. only (same_row z (group_row key reduce A (k, t))) (half_gap key A (k, t)) ≡ only (gives_above k z t) (half_gap key A (k, t))) ls
      (λ t some. ap (λ b. only b (half_gap key A (k, t))) (gives-some reduce k z (top (of_key k) t) some)) (levels_have_tops (of_key k)))
      ∙ gaps_are_cuts (λ t q. only (gives_above k z t) q) ls (levels_fall (of_key k))

  -- the weight of a row of the group
  at-grouped : (z : Row) → at (grouped key reduce A) z ≡ total (λ k. cut_total (gives_above k z) (levels (of_key k))) (keys key A)
  at-grouped z =
      at-gathered (group_row key reduce A) (half_gap key A) (key_levels key A) z
      ∙ ratio_sum-pairs (group_row key reduce A) (half_gap key A) (λ k. levels (of_key k)) (keys key A) z
      ∙ total-same (λ k. ratio_sum (weights_for (λ t. group_row key reduce A (k, t)) (λ t. half_gap key A (k, t)) (levels (of_key k)) z)) (λ k. cut_total (gives_above k z) (levels (of_key k))) (keys key A) (λ k. own_levels k z)

  module _ (ts : List Ratio) (falls : AreFalling ts) (above : AllByRecursion IsAboveZero ts) (among : (x : Row) → at A x ≢ zero_ratio → Has ts (at A x)) where
    -- the thresholds hold the levels of each key
    levels_among : (k : Row) → AllByRecursion (Has ts) (levels (of_key k))
    levels_among k =
        AllByRecursion-with_levels (Has ts) (map (at (of_key k)) (rows (of_key k)))
        (AllByRecursion-map (Has ts) (at (of_key k)) (rows (of_key k)) (AllByRecursion-has_row (λ x. Has ts (at (of_key k) x)) (rows (of_key k)) (λ x there. here x (at-present (of_key k) x there))))
      where
        in_either : (b : Bool) (x : Row) → only b (at A x) ≢ zero_ratio → Has ts (only b (at A x))
        in_either true x weighed = among x weighed
        in_either false x weighed = absurd (weighed refl)

        here : (x : Row) → at (of_key k) x ≢ zero_ratio → Has ts (at (of_key k) x)
        here x weighed = subst (Has ts) (sym (at-part key A k x)) (in_either (same_row k (key x)) x (λ e. weighed (at-part key A k x ∙ e)))

    at_thresholds : (k z : Row) → cut_total (gives_above k z) ts ≡ cut_total (gives_above k z) (levels (of_key k))
    at_thresholds k z =
        cut_total-refined (gives_above k z) ts (levels (of_key k)) falls (levels_fall (of_key k)) (levels_among k)
        (everywhere ts (gives_in_steps (at (of_key k)) (rows (of_key k)) (gives reduce k z) refl (levels (of_key k)) (levels_fall (of_key k)) (weights_among_levels (of_key k))))
      where
        everywhere : (us : List Ratio) → ((t : Ratio) → gives_above k z t ≡ step_value (gives_above k z) false (levels (of_key k)) t) → AllByRecursion (λ t. gives_above k z t ≡ step_value (gives_above k z) false (levels (of_key k)) t) us
        everywhere [] h = tt
        everywhere (u ∷ us) h = (h u, everywhere us h)

    -- a key that is not there gives nothing
    no_key : (k z : Row) → has_row (keys key A) k ≡ false → cut_total (gives_above k z) ts ≡ zero_ratio
    no_key k z absent = nothing ts above
      where
        nothing : (us : List Ratio) → AllByRecursion IsAboveZero us → cut_total (gives_above k z) us ≡ zero_ratio
        nothing [] h = refl
        nothing (u ∷ us) h =
            total-cons (λ c. only (gives_above k z c.0) c.1) (u, ratio_half (down_to u us)) (cuts us)
            ∙ ap₂ (λ b q. ratio_add (only b (ratio_half (down_to u us))) q) (ap (gives reduce k z) (no_rows key A k absent u h.0)) (nothing us h.1)
            ∙ ratio_add_zero zero_ratio

    -- the weight of a row of the group, by any keys that cover its own, and these thresholds
    pub at-grouped-covered : (ks : List Row) → AreRising ks → ((k : Row) → has_row ks k ≡ false → has_row (keys key A) k ≡ false) → (z : Row) → at (grouped key reduce A) z ≡ total (λ k. cut_total (gives_above k z) ts) ks
    at-grouped-covered ks rising covers z =
        at-grouped z
        ∙ total-same (λ k. cut_total (gives_above k z) (levels (of_key k))) (λ k. cut_total (gives_above k z) ts) (keys key A) (λ k. sym (at_thresholds k z))
        ∙ total-within (λ k. cut_total (gives_above k z) ts) (keys key A) ks (AreRising-keys key A) rising (λ k absent. no_key k z absent) (λ k absent. no_key k z (covers k absent))
