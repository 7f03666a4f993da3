use Rattle.json_fields.proofs.KeyOrder.{keys_rise}
use Rattle.json_fields.proofs.law_keys_rise.Goals as goal

pub returns : goal.returns
returns c = keys_rise
