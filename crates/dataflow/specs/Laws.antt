-- Laws of evaluation, each the contract of a function.
use Rattle.std.specs.Prelude.{◌≡◌, ℕ, ◌<◌, List, length}
use Rattle.weighted_set.specs.Standing.{Meaning}
use Rattle.dataflow.specs.declared.wire.Wire.{Wire}
use Rattle.dataflow.specs.Evaluation.{Family, dataset_at, evals, meaning_at, step_output}
use Rattle.dataflow.specs.Wiring.{AreWired, wire_at}

-- the dataset of each step is what its sources and the steps before it give
abbrev pub EvalsAreOutputs : Type 0
EvalsAreOutputs =
    (ms : List Meaning) (wires : List Wire) (source_count : ℕ) (F : Family) (i : ℕ) → length ms ≡ length wires → AreWired wires source_count → i < length ms
    → dataset_at (evals ms wires F) i ≡ step_output (meaning_at ms i).output (wire_at wires i) F (evals ms wires F)
