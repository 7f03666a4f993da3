use Rattle.std.proofs.Common.{◌≡◌, take}
use Rattle.request_machine.specs.Charges.{asks_from}
use Rattle.session_core.proofs.declare.used_sources.Given as goal

abbrev pub invariant-loop-source : goal.invariant-loop-source
invariant-loop-source l = l.list.items ≡ asks_from 0 (take l.source l.checked.uses)
