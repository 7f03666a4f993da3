use Rattle.operators.proofs.Elsewhere.{group_elsewhere, join_elsewhere, shave_elsewhere}
use Rattle.operators.proofs.law_elsewhere.Goals as goal

pub returns : goal.returns
returns c = record { shave = shave_elsewhere; join = join_elsewhere; group = group_elsewhere }
