-- What the node of a source means: it takes nothing, so it is never prepared.
use Rattle.std.specs.Prelude.{false, None}
use Rattle.operators.specs.InRange.{weights_in_range}
use Rattle.weighted_set.specs.Standing.{KeepsRange, Meaning, Standing}

-- a source's rows stay as they are
abbrev pub source_meaning : Meaning
source_meaning = record { takes = λ A B. false; fits = λ A B. weights_in_range A; output = λ A B. A; work = λ A B C D. None }

-- it keeps nothing
abbrev pub source_standing : Standing
source_standing = record { meaning = source_meaning; StandsFor = λ A B. Unit {0}; StandsPending = λ A B. Unit {0}; is_pending = false }

pub source_keeps_range : KeepsRange source_meaning
source_keeps_range A B a b fits = a
