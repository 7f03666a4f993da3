use Rattle.operators.proofs.OutputSigns.{NoneNegative-concat, NoneNegative-filtered, NoneNegative-grouped, NoneNegative-intersect, NoneNegative-joined, NoneNegative-selected, NoneNegative-shaved, NoneNegative-spread, NoneNegative-union}
use Rattle.operators.proofs.law_signs.Goals as goal

pub returns : goal.returns
returns c = record {
  filter = NoneNegative-filtered;
  select = NoneNegative-selected;
  many = NoneNegative-spread;
  shave = NoneNegative-shaved;
  union_ = NoneNegative-union;
  intersect = NoneNegative-intersect;
  concat = NoneNegative-concat;
  join = NoneNegative-joined;
  group = NoneNegative-grouped;
}
