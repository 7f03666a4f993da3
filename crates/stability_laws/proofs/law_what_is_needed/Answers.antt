use Rattle.stability_laws.proofs.Worlds.{concat_with_itself_breaks, greater_norm_breaks, join_with_itself_breaks, signed_weights_break, whole_gaps_break}
use Rattle.stability_laws.proofs.law_what_is_needed.Goals as goal

pub returns : goal.returns
returns c = record {
  both_norms = greater_norm_breaks;
  half_gaps = whole_gaps_break;
  no_signs = signed_weights_break;
  concat_twice = concat_with_itself_breaks;
  join_twice = join_with_itself_breaks;
}
