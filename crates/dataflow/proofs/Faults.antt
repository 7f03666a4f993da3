-- The fault of a graph, from that of an operator.
use Rattle.std.proofs.Common.{◌≡◌, ℕ, refl}
use Rattle.dataflow.specs.Faults.{fault_at}
use Rattle.dataflow.specs.declared.passes.GraphFault.TheVariants as fault
use Rattle.weighted_set.specs.declared.part_op.OpFault.{OpFault}
use Rattle.weighted_set.specs.declared.part_op.OpFault.TheVariants.{Memory, Range}

-- a step is named where its operator's inputs don't fit
pub named : (step i : ℕ) (refused : OpFault) → fault_at step refused ≡ fault.Range i → (refused ≡ Range) × (step ≡ i)
named step i Range e = (refl, cc)
named step i Memory e = cc
