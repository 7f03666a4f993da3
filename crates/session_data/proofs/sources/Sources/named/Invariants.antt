use Rattle.std.proofs.Common.{◌≡◌, take}
use Rattle.request_machine.specs.Charges.{by_name}
use Rattle.session_data.proofs.sources.Sources.named.Given as goal

abbrev pub invariant-loop-ask : goal.invariant-loop-ask
invariant-loop-ask l = l.list.items ≡ by_name l.self.committed (take l.ask-index l.asks)
