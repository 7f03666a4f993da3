use Rattle.operators.proofs.KeyWeights.{group_at_key}
use Rattle.operators.proofs.SingleWeights.{at-joined-pair, at-shaved-piece}
use Rattle.operators.proofs.LevelOrder.{levels_are_weights, levels_fall}
use Rattle.operators.proofs.law_outputs.Goals as goal

pub returns : goal.returns
returns c = record {
  pieces = at-shaved-piece;
  pairs = at-joined-pair;
  levels_fall = levels_fall;
  levels_are_weights = levels_are_weights;
  group_at_key = group_at_key;
}
