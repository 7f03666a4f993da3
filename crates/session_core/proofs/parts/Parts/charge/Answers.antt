use Rattle.std.proofs.Common.{List, ap}
use Rattle.request_machine.specs.State.{SourceState, State}
use Rattle.session_core.specs.Parts.{state_of}
use Rattle.session_core.proofs.Charged.{AreSettled-charged}
use Rattle.session_core.proofs.parts.Parts.charge.Goals as goal

pub returns-clause-settled : goal.returns-clause-settled
returns-clause-settled c =
    AreSettled-charged c.args.self.now c.charge.new.self c.args.asks.now c.requires.settled c.charge.ensures.committed c.charge.ensures.pending c.charge.ensures.kept

pub returns-clause-state : goal.returns-clause-state
returns-clause-state c =
    ap (λ (sources : List SourceState). let state : State = record (state_of c.args.self.now) { sources = sources } in state) c.charge.ensures.committed
