-- One step of the walk over a part by falling weight.
use Rattle.std.specs.Prelude.{ℕ, suc, ◌+◌, ◌<◌, ◌≤◌, ◌≡◌, Bool, true, false, ◌&&◌, cond, drop, List, [], ◌∷◌, length, map, Option, None, Some, refl}
use Rattle.std.proofs.Common.{arith, sym, ap, ap₂, ◌∙◌, Bor, get_or}
use Rattle.std.proofs.Math.Bool.{and-false}
use Rattle.std.proofs.lemmas.List.{length-map, get_or-map}
use Rattle.std.proofs.Math.Seq.{drop-cons}
use Rattle.std.proofs.Math.ListN.{drop_of_length-le}
use Rattle.ratios.specs.Range.{InRange, checked, in_range}
use Rattle.ratios.specs.Ratio.{Ratio}
use Rattle.ratios.proofs.Range.{checked_none, checked_some, in_range-out}
use Rattle.record_text.specs.declared.atom.Atom.{Atom}
use Rattle.datasets.specs.Dataset.{Dataset}
use Rattle.datasets.specs.Entries.{Entries, Row}
use Rattle.operators.specs.Operators.{down_to}
use Rattle.weighted_set.specs.declared.weighted.Weighted.{Weighted}
use Rattle.plan_model.specs.declared.step.Reducer.{Reducer}
use Rattle.level_walks.specs.Walks.{atom_gaps, half_fits, ties_with, weights_of, with_half, with_halves}
use Rattle.op_groupby.specs.Group.{ordered}
use Rattle.op_groupby.specs.Taking.{TakenRows, answer, with_taken}

-- ---- the entries from a place on
pub length-ordered : (order : List (Bor Weighted)) → length (ordered order) ≡ length order
length-ordered [] = refl
length-ordered (e ∷ order) = ap suc (length-ordered order)

pub entry_at : (order : List (Bor Weighted)) (i : ℕ) (e : Bor Weighted) → i < length order → e ≡ get_or order i e → drop i (ordered order) ≡ (e.now.row, e.now.weight) ∷ drop (i + 1) (ordered order)
entry_at order i e below is =
    let n = length-ordered order in
    let k : suc i ≡ i + 1 = omega arith in
    let m : length (map (λ (e : Bor Weighted). e.now) order) ≡ length order = length-map order (λ e. e.now) in
    drop-cons (ordered order) i (e.now.row, e.now.weight) (omega arith)
    ∙ ap₂ (λ f j. f ∷ drop j (ordered order))
    (get_or-map (λ (w : Weighted). (w.row, w.weight)) (map (λ (e : Bor Weighted). e.now) order) i e.now (e.now.row, e.now.weight) (omega arith)
    ∙ ap (λ (w : Weighted). (w.row, w.weight)) (get_or-map (λ (e : Bor Weighted). e.now) order i e e.now below)
    ∙ ap (λ (b : Bor Weighted). (b.now.row, b.now.weight)) (sym is)) k

pub none_past : (order : List (Bor Weighted)) (i : ℕ) → length order ≤ i → drop i (ordered order) ≡ []
none_past order i past = let n = length-ordered order in drop_of_length-le (ordered order) (omega arith)

-- ---- the row at a place, and those behind it
module _ (reduce : Reducer) (k : Row) (A : Dataset) (s : TakenRows) (order : List (Bor Weighted)) (i : ℕ) (e : Bor Weighted) (below : i < length order) (is : e ≡ get_or order i e) where
  abbrev pub walk_on : Dataset → TakenRows → Entries → Option Dataset
  walk_on B t es = with_halves k B (atom_gaps (with_taken reduce) (answer reduce) t es)

  abbrev rest : Entries
  rest = drop (i + 1) (ordered order)

  abbrev now : TakenRows
  now = with_taken reduce s e.now.row

  -- either the row ties with the next one, or its level ends
  walk_is : walk_on A s (drop i (ordered order)) ≡ cond (ties_with e.now.weight rest) (walk_on A now rest) (with_halves k A ((answer reduce now, down_to e.now.weight (weights_of rest)) ∷ atom_gaps (with_taken reduce) (answer reduce) now rest))
  walk_is = ap (walk_on A s) (entry_at order i e below is) ∙ either (ties_with e.now.weight rest)
    where
      either : (b : Bool) → with_halves k A (cond b (atom_gaps (with_taken reduce) (answer reduce) now rest) ((answer reduce now, down_to e.now.weight (weights_of rest)) ∷ atom_gaps (with_taken reduce) (answer reduce) now rest)) ≡ cond b (walk_on A now rest) (with_halves k A ((answer reduce now, down_to e.now.weight (weights_of rest)) ∷ atom_gaps (with_taken reduce) (answer reduce) now rest))
      either true = refl
      either false = refl

  pub walk_tie : ties_with e.now.weight rest ≡ true → walk_on A s (drop i (ordered order)) ≡ walk_on A now rest
  walk_tie h = walk_is ∙ ap (λ b. cond b (walk_on A now rest) (with_halves k A ((answer reduce now, down_to e.now.weight (weights_of rest)) ∷ atom_gaps (with_taken reduce) (answer reduce) now rest))) h

  module _ (apart : ties_with e.now.weight rest ≡ false) where
    walk_apart : (atom : Atom) (gap : Ratio) → atom ≡ answer reduce now → gap ≡ down_to e.now.weight (weights_of rest) →
        walk_on A s (drop i (ordered order)) ≡ cond (in_range gap && half_fits k A (atom, gap)) (walk_on (with_half k A (atom, gap)) now rest) None
    walk_apart atom gap is_atom is_gap =
        walk_is
        ∙ ap (λ b. cond b (walk_on A now rest) (with_halves k A ((answer reduce now, down_to e.now.weight (weights_of rest)) ∷ atom_gaps (with_taken reduce) (answer reduce) now rest))) apart
        ∙ ap₂ (λ a g. with_halves k A ((a, g) ∷ atom_gaps (with_taken reduce) (answer reduce) now rest)) (sym is_atom) (sym is_gap)

    -- the gap is out of range
    pub walk_far : checked (down_to e.now.weight (weights_of rest)) ≡ None → walk_on A s (drop i (ordered order)) ≡ None
    walk_far far =
        let gap = down_to e.now.weight (weights_of rest) in
        let atom = answer reduce now in
        walk_apart atom gap refl refl
        ∙ ap (λ b. cond (b && half_fits k A (atom, gap)) (walk_on (with_half k A (atom, gap)) now rest) None) (in_range-out gap (checked_none gap far))

    module _ (atom : Atom) (gap : Ratio) (is_atom : atom ≡ answer reduce now) (is_gap : checked (down_to e.now.weight (weights_of rest)) ≡ Some gap) where
      gap_is : InRange (down_to e.now.weight (weights_of rest)) × (gap ≡ down_to e.now.weight (weights_of rest))
      gap_is = checked_some (down_to e.now.weight (weights_of rest)) gap is_gap

      -- half the gap or the sum with it is out of range
      pub walk_out : half_fits k A (atom, gap) ≡ false → walk_on A s (drop i (ordered order)) ≡ None
      walk_out h =
          walk_apart atom gap is_atom gap_is.1
          ∙ ap (λ b. cond b (walk_on (with_half k A (atom, gap)) now rest) None) (ap (λ b. in_range gap && b) h ∙ and-false (in_range gap))

      pub walk_more : half_fits k A (atom, gap) ≡ true → walk_on A s (drop i (ordered order)) ≡ walk_on (with_half k A (atom, gap)) now rest
      walk_more h =
          walk_apart atom gap is_atom gap_is.1
          ∙ ap₂ (λ a b. cond (a && b) (walk_on (with_half k A (atom, gap)) now rest) None) (ap in_range gap_is.1 ∙ gap_is.0) h
