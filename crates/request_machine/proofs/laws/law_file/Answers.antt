use Rattle.request_machine.proofs.DeviceRefusals.{only_failed_file}
use Rattle.request_machine.proofs.laws.law_file.Goals as goal

pub returns : goal.returns
returns c = only_failed_file
