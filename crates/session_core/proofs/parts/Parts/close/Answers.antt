use Rattle.session_core.proofs.ComesTo.{AreHeld-ready}
use Rattle.session_core.proofs.parts.Parts.close.Goals as goal

pub abort-requires : goal.abort-requires
abort-requires c = AreHeld-ready c.args.self.now c.args.outcome.effect c.requires.ready
