use Rattle.std.proofs.Common.{◌≡◌, map, take}
use Rattle.request_machine.specs.Charges.{at_epsilon}
use Rattle.session_core.proofs.measure.asks_at.Given as goal

abbrev pub invariant-loop-used : goal.invariant-loop-used
invariant-loop-used l = l.asks.items ≡ map (at_epsilon l.epsilon) (take l.used-index l.uses)
