-- Where the inputs of a plan's steps come from.
use Rattle.std.specs.Prelude.{ℕ, ◌<◌, List, length, get_or, Option, Some, None}
use Rattle.dataflow.specs.declared.wire.Wire.{Wire}
use Rattle.dataflow.specs.declared.wire.Wire.TheVariants.{Source, Of}

-- the wire of the step i
abbrev pub wire_at : List Wire → ℕ → Wire
wire_at wires i = get_or wires i (Source 0)

-- a right input is absent, or it comes before i
abbrev pub RightBefore : ℕ → Option ℕ → Type 0
RightBefore i None = Unit {0}
RightBefore i (Some right) = right < i

-- a step's inputs come from one of the first sources, or from steps before i
abbrev pub RefersBefore : ℕ → ℕ → Wire → Type 0
RefersBefore source_count i (Source s) = s < source_count
RefersBefore source_count i (Of left right) = (left < i) × RightBefore i right

-- each step refers to sources that there are, and to earlier steps alone
abbrev pub AreWired : List Wire → ℕ → Type 0
AreWired wires source_count = (i : ℕ) → i < length wires → RefersBefore source_count i (wire_at wires i)
