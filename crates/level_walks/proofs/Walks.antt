-- The walk over a part by falling weight meets each level with its gap and its rows' atom.
use Rattle.std.specs.Prelude.{◌≡◌, true, false, cond, filter, fold, List, [], ◌∷◌, ◌++◌, map, refl}
use Rattle.std.specs.List.{AllByRecursion}
use Rattle.std.proofs.Common.{sym, ap, ap₂, ◌∙◌}
use Rattle.std.proofs.lemmas.List.Sorted.{IsPermutation-map}
use Rattle.ratios.specs.Ratio.{Ratio, is_at_most, is_below}
use Rattle.ratios.proofs.AtMost.{at_most_itself}
use Rattle.record_text.specs.declared.atom.Atom.{Atom}
use Rattle.datasets.specs.Dataset.{Dataset, at}
use Rattle.datasets.specs.Entries.{Entries, Row, rows_of}
use Rattle.operators.specs.Operators.{down_to, gap, levels, top, with_levels}
use Rattle.weighted_set.proofs.Parts.{entries_have_weights}
use Rattle.level_walks.specs.Walks.{IsByWeight, NeverRise, atom_gaps, ties_with, weights_of}
use Rattle.level_walks.proofs.Falls.{below_front, levels_from, with_levels-permuted}
use Rattle.level_walks.proofs.Fronts.{AllFrom, AllFrom-more, IsAbove, IsAbove-more, IsAbove-none, NeverRise-rest, NoneFrom, down_from, from, from_front, none_below, none_from, take_up-permuted}

-- ---- the weights and the highest rows are those of the entries
weights_rows : (P : Dataset) (es : Entries) → AllByRecursion (λ e. e.1 ≡ at P e.0) es → map (at P) (rows_of es) ≡ weights_of es
weights_rows P [] h = refl
weights_rows P (e ∷ es) h = ap₂ (λ w ws. w ∷ ws) (sym h.0) (weights_rows P es h.1)

top_rows : (P : Dataset) (t : Ratio) (es : Entries) → AllByRecursion (λ e. e.1 ≡ at P e.0) es → filter (λ x. is_at_most t (at P x)) (rows_of es) ≡ rows_of (from t es)
top_rows P t [] h = refl
top_rows P t (e ∷ es) h =
    let rest = filter (λ x. is_at_most t (at P x)) (rows_of es) in
    ap (λ w. cond (is_at_most t w) (e.0 ∷ rest) rest) (sym h.0)
    ∙ elim (is_at_most t e.1) as (λ b. cond b (e.0 ∷ rest) rest ≡ rows_of (cond b (e ∷ from t es) (from t es))) [ true ↦ ap (λ xs. e.0 ∷ xs) (top_rows P t es h.1) | false ↦ top_rows P t es h.1 ]

-- ---- the walk

one_further : {X : Type 0} (xs : List X) (x : X) (ys : List X) → xs ++ x ∷ ys ≡ (xs ++ x ∷ []) ++ ys
one_further [] x ys = refl
one_further (w ∷ xs) x ys = ap (λ zs. w ∷ zs) (one_further xs x ys)

module _ {S : Type 0} (step : S → Row → S) (answer : S → Atom) (s0 : S) (reduce : List Row → Atom)
    (alike : (s : S) (x y : Row) → step (step s x) y ≡ step (step s y) x) (reduces : (xs : List Row) → reduce xs ≡ answer (fold step s0 xs))
    (P : Dataset) (es : Entries) (order : IsByWeight P.entries es) where
  abbrev take_up : S → Entries → S
  take_up s fs = fold step s (rows_of fs)

  take_up-more : (s : S) (front : Entries) (e : Row × Ratio) → take_up s (front ++ e ∷ []) ≡ step (take_up s front) e.0
  take_up-more s [] e = refl
  take_up-more s (f ∷ front) e = take_up-more (step s f.0) front e

  have : AllByRecursion (λ e. e.1 ≡ at P e.0) P.entries
  have = entries_have_weights P.entries P.rising

  levels_order : levels P ≡ with_levels (weights_of es)
  levels_order =
      ap with_levels (weights_rows P P.entries have)
      ∙ sym (with_levels-permuted (weights_of P.entries) (weights_of es) (IsPermutation-map (λ (e : Row × Ratio). e.1) P.entries es order.same))

  -- what a level adds
  abbrev pub level_gap : Ratio → Atom × Ratio
  level_gap t = (reduce (top P t), gap P t)

  -- the entry e, which is the last of its level, with those before and behind it
  module _ (front : Entries) (e : Row × Ratio) (rest : Entries) (whole : es ≡ (front ++ e ∷ []) ++ rest) (falling : NeverRise (e ∷ rest)) (above : AllFrom e.1 front) (apart : ties_with e.1 rest ≡ false) where
    all_above : AllFrom e.1 (front ++ e ∷ [])
    all_above = AllFrom-more e.1 front e above (at_most_itself e.1)

    others : NoneFrom e.1 rest
    others = none_from e rest falling apart

    reduced : reduce (top P e.1) ≡ answer (take_up s0 (front ++ e ∷ []))
    reduced =
        reduces (top P e.1)
        ∙ ap (λ xs. answer (fold step s0 xs)) (top_rows P e.1 P.entries have)
        ∙ ap answer (sym (take_up-permuted step alike e.1 s0 P.entries es order.same))
        ∙ ap (λ fs. answer (take_up s0 (from e.1 fs))) whole
        ∙ ap (λ fs. answer (take_up s0 fs)) (from_front e.1 (front ++ e ∷ []) rest all_above others)

    down : gap P e.1 ≡ down_to e.1 (weights_of rest)
    down =
        ap (λ us. down_to e.1 (filter (λ u. is_below u e.1) us)) (levels_order ∙ ap (λ fs. with_levels (weights_of fs)) whole)
        ∙ ap (down_to e.1) (below_front e.1 (front ++ e ∷ []) rest (none_below e.1 (front ++ e ∷ []) all_above))
        ∙ down_from e.1 rest (NeverRise-rest e rest falling) others

    level_is : (answer (take_up s0 (front ++ e ∷ [])), down_to e.1 (weights_of rest)) ≡ level_gap e.1
    level_is = ap₂ (λ a g. (a, g)) (sym reduced) (sym down)

  atom_gaps_from : (front rest : Entries) → es ≡ front ++ rest → NeverRise rest → IsAbove front rest → atom_gaps step answer (take_up s0 front) rest ≡ map level_gap (with_levels (weights_of rest))
  atom_gaps_from front [] whole falling above = refl
  atom_gaps_from front (e ∷ rest) whole falling above =
      let t = take_up s0 (front ++ e ∷ []) in
      let split = whole ∙ one_further front e rest in
      let later = atom_gaps_from (front ++ e ∷ []) rest split (NeverRise-rest e rest falling) (IsAbove-more front e rest falling above) in
      ap (λ s. cond (ties_with e.1 rest) (atom_gaps step answer s rest) ((answer s, down_to e.1 (weights_of rest)) ∷ atom_gaps step answer s rest)) (sym (take_up-more s0 front e))
      ∙ elim (ties_with e.1 rest) as (λ b. ties_with e.1 rest ≡ b → cond b (atom_gaps step answer t rest) ((answer t, down_to e.1 (weights_of rest)) ∷ atom_gaps step answer t rest) ≡ map level_gap (cond b (with_levels (weights_of rest)) (e.1 ∷ with_levels (weights_of rest)))) [
        | true ↦ λ p. later
        | false ↦ λ p. ap₂ (λ g gs. g ∷ gs) (level_is front e rest split falling above p) later
      ] refl
      ∙ sym (ap (map level_gap) (levels_from e rest falling))

  -- the walk meets the levels
  pub atom_gaps-levels : atom_gaps step answer s0 es ≡ map level_gap (levels P)
  atom_gaps-levels = atom_gaps_from [] es refl order.falling (IsAbove-none es) ∙ ap (map level_gap) (sym levels_order)
