use Rattle.std.proofs.Common.{◌≡◌, take, drop, ◌++◌}
use Rattle.record_text.proofs.kinds.cells_of.Given as goal

abbrev pub invariant-loop-i : goal.invariant-loop-i
invariant-loop-i l = l.cells ≡ take l.i l.kinds ++ drop l.i l.initial.cells
