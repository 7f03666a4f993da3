-- That the walk gives the output of the part.
use Rattle.std.specs.Prelude.{◌≡◌, List, fold}
use Rattle.record_text.specs.declared.atom.Atom.{Atom}
use Rattle.datasets.specs.Dataset.{Dataset}
use Rattle.datasets.specs.Entries.{Entries, Row}
use Rattle.level_walks.specs.Levels.{checked_part}
use Rattle.level_walks.specs.Walks.{IsByWeight, walked}

-- where rows that are taken up in any order make the same, and what all rows of a list make gives the list's atom,
-- the walk over a part by falling weight gives the part's output
abbrev pub WalkGivesPart : Type 0
WalkGivesPart = (step : List Row → Row → List Row) (answer : List Row → Atom) (s : List Row) (reduce : List Row → Atom) →
    ((t : List Row) (x y : Row) → step (step t x) y ≡ step (step t y) x) →
    ((xs : List Row) → reduce xs ≡ answer (fold step s xs)) →
    (k : Row) (P : Dataset) (es : Entries) → IsByWeight P.entries es → walked step answer s k es ≡ checked_part reduce k P
