use Rattle.std.proofs.Common.{◌≡◌, take, ◌++◌}
use Rattle.record_text.proofs.in_place.push_copies.Given as goal

abbrev pub invariant-loop-atom : goal.invariant-loop-atom
invariant-loop-atom l = l.copies.items ≡ l.initial.copies.items ++ take l.atom-index l.atoms
