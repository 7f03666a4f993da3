-- What nodes with their wires, and the output that is kept of the last of them, stand for.
use Rattle.std.specs.Prelude.{◌≡◌, ℕ, true, List}
use Rattle.datasets.specs.Entries.{Row}
use Rattle.weighted_set.specs.Parts.{StoreParts, committed_part, pending_part}
use Rattle.weighted_set.specs.Standing.{IsWithin, Standing}
use Rattle.weighted_set.specs.declared.weighted.Change.{Change}
use Rattle.dataflow.specs.Evaluation.{Family, fits_at, last_output}
use Rattle.dataflow.specs.Outputs.{HoldRows}
use Rattle.dataflow.specs.Standing.{AreIdle, IsMisfit, MayChange, StepsPend, StepsStand, meanings}
use Rattle.dataflow.specs.Work.{wired_work}
use Rattle.dataflow.specs.declared.wire.Wire.{Wire}

-- nothing is pending in the nodes and in the output
pub record AreAtRest {N : Type 0} (of : N → Standing) (nodes : List N) (out : StoreParts) : Type 0 where
  pub idle : AreIdle of nodes
  pub settled : (k : Row) → pending_part out k ≡ committed_part out k

-- each node, and the output that is kept, stand for the sources F
pub record WiresStand {N : Type 0} (of : N → Standing) (nodes : List N) (out : StoreParts) (wires : List Wire) (F : Family) : Type 0 where
  pub steps : StepsStand of nodes wires F
  pub output : HoldRows (committed_part out) (last_output (meanings of nodes) wires F)

-- what is pending in each node and in the output is what the sources F give
pub record WiresPend {N : Type 0} (of : N → Standing) (nodes : List N) (out : StoreParts) (wires : List Wire) (F : Family) : Type 0 where
  pub steps : StepsPend of nodes wires F
  pub output : HoldRows (pending_part out) (last_output (meanings of nodes) wires F)

-- the changes are pending, and each step fits what the sources F give it
pub record HaveTurned {N : Type 0} (of : N → Standing) (nodes : List N) (out : StoreParts) (wires : List Wire) (F : Family) : Type 0 where
  pub pending : WiresPend of nodes out wires F
  pub fits : (i : ℕ) → fits_at (meanings of nodes) wires F i ≡ true

-- they stand for some sources that these changes can be made to
abbrev pub WiresHaveInputs : {N : Type 0} → (N → Standing) → List N → StoreParts → List Wire → List (List Change) → Type 0
WiresHaveInputs of nodes out wires sources =
    (F : Family) × ((G : Family) × (WiresStand of nodes out wires F × MayChange (meanings of nodes) wires sources F G))

-- whatever the changes make of the sources, that is pending
abbrev pub WiresTurn : {N : Type 0} → (N → Standing) → List N → StoreParts → List N → StoreParts → List Wire → List (List Change) → Type 0
WiresTurn of old out new after wires sources =
    (F G : Family) → WiresStand of old out wires F → MayChange (meanings of old) wires sources F G → HaveTurned of new after wires G

-- whatever the changes make of the sources, the step i is the first that doesn't fit
abbrev pub WiresMisfit : {N : Type 0} → (N → Standing) → List N → StoreParts → List Wire → List (List Change) → ℕ → Type 0
WiresMisfit of nodes out wires sources i =
    (F G : Family) → WiresStand of nodes out wires F → MayChange (meanings of nodes) wires sources F G → IsMisfit (meanings of nodes) wires G i

-- whatever the changes make of the sources, the ticks are within the work of the steps and the output
abbrev pub WiresKeepWork : {N : Type 0} → (N → Standing) → List N → StoreParts → List Wire → List (List Change) → ℕ → ℕ → Type 0
WiresKeepWork of nodes out wires sources old new =
    (F G : Family) → WiresStand of nodes out wires F → MayChange (meanings of nodes) wires sources F G
    → IsWithin old (wired_work (meanings of nodes) wires F G) new

-- what they stood for they stand for
abbrev pub WiresKeep : {N : Type 0} → (N → Standing) → List N → StoreParts → List N → StoreParts → List Wire → Type 0
WiresKeep of old out new after wires = (F : Family) → WiresStand of old out wires F → WiresStand of new after wires F

-- what was pending they stand for
abbrev pub WiresCommit : {N : Type 0} → (N → Standing) → List N → StoreParts → List N → StoreParts → List Wire → Type 0
WiresCommit of old out new after wires = (F : Family) → WiresPend of old out wires F → WiresStand of new after wires F
