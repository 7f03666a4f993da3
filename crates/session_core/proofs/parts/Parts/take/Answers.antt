use Rattle.session_core.proofs.Declared.{AreSettled-declares, fresh-types}
use Rattle.session_core.proofs.parts.Parts.take.Goals as goal

pub push-requires-clause-fresh : goal.push-requires-clause-fresh
push-requires-clause-fresh c =
    let ready = rw c.in-Source.is at c.requires.ready in
    fresh-types c.in-Source.source_type.name c.args.self.now.sources.committed ready.1.nowhere

pub returns-in-Source-clause-settled : goal.returns-in-Source-clause-settled
returns-in-Source-clause-settled c =
    let ready = rw c.in-Source.is at c.requires.ready in
    AreSettled-declares c.push.result c.args.self.now c.push.new.self c.in-Source.source_type c.in-Source.budget ready.0 ready.1.few ready.1.nowhere ready.2
    c.push.ensures.committed c.push.ensures.pending c.push.ensures.err
