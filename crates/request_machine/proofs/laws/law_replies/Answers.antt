use Rattle.request_machine.specs.Machine.{stage, step}
use Rattle.request_machine.specs.Stages.{finished}
use Rattle.request_machine.proofs.DeviceRefusals.{no_reply-memory}
use Rattle.request_machine.proofs.laws.law_replies.Goals as goal

pub returns : goal.returns
unfolding step
returns c = λ state line drawn fetched. no_reply-memory ((finished state (stage state line fetched) drawn).1)
