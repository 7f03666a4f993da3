use Rattle.request_machine.proofs.DeviceRefusals.{only_short_noise}
use Rattle.request_machine.proofs.laws.law_noise.Goals as goal

pub returns : goal.returns
returns c = only_short_noise
