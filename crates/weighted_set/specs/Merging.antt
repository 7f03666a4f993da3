-- Two datasets row by row, and the changes from one to the other.
use Rattle.std.specs.Prelude.{List, [], ◌∷◌, map}
use Rattle.std.specs.Ordering.{match_ordering}
use Rattle.ratios.specs.Ratio.{Ratio, zero_ratio}
use Rattle.record_text.specs.Order.{row_cmp}
use Rattle.datasets.specs.Dataset.{Dataset, at, rows_of_either}
use Rattle.datasets.specs.Entries.{Row, Entries}
use Rattle.weighted_set.specs.declared.held.Held.{Held}
use Rattle.weighted_set.specs.declared.weighted.Change.{Change}
use Rattle.weighted_set.specs.Held.{held_changes}

-- a row with two weights
abbrev pub both : Row → Ratio → Ratio → Row × Held
both x v w = (x, record { committed = v; pending = w })

-- the changes from A to B: the rows whose weights differ, in row order
abbrev pub changes_between : Dataset → Dataset → List Change
changes_between A B = held_changes (map (λ x. both x (at A x) (at B x)) (rows_of_either A B))

module _ {X : Type 0} (f : Row → Ratio → Ratio → X) where
  -- what f gives of the rows of e, of those above it and of a second list
  abbrev pub merged_past : Row × Ratio → (Entries → List X) → Entries → List X
  merged_past e rest [] = f e.0 e.1 zero_ratio ∷ rest []
  merged_past e rest (g ∷ gs) =
      match_ordering (row_cmp e.0 g.0) (f e.0 e.1 zero_ratio ∷ rest (g ∷ gs)) (f e.0 e.1 g.1 ∷ rest gs) (f g.0 zero_ratio g.1 ∷ merged_past e rest gs)

  -- what f gives of each row of two lists and of its weights there, in row order where the lists are
  abbrev pub merged : Entries → Entries → List X
  merged [] gs = map (λ g. f g.0 zero_ratio g.1) gs
  merged (e ∷ es) gs = merged_past e (merged es) gs
