-- Why a graph has no answer.
use Rattle.std.specs.Prelude.{ℕ}
use Rattle.dataflow.specs.declared.passes.GraphFault.{GraphFault}
use Rattle.dataflow.specs.declared.passes.GraphFault.TheVariants as fault
use Rattle.weighted_set.specs.declared.part_op.OpFault.{OpFault}
use Rattle.weighted_set.specs.declared.part_op.OpFault.TheVariants.{Memory, Range}

-- the fault of a graph where the operator of the step i has this one
abbrev pub fault_at : ℕ → OpFault → GraphFault
fault_at i Range = fault.Range i
fault_at i Memory = fault.Memory
