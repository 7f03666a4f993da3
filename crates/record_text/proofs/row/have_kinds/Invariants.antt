use Rattle.std.proofs.Common.{◌≡◌, drop}
use Rattle.record_text.specs.KindLists.{kinds_eq, kinds_of}
use Rattle.record_text.proofs.row.have_kinds.Given as goal

abbrev pub invariant-loop-at : goal.invariant-loop-at
invariant-loop-at l = kinds_eq (kinds_of (drop l.at l.atoms)) (drop l.at l.kinds) ≡ kinds_eq (kinds_of l.atoms) l.kinds
