-- The worlds, computed.
use Rattle.std.proofs.Common.{refl}
use Rattle.ratios.specs.Code.{same_parts}
use Rattle.ratios.specs.Gcd.{gcd, gcd_within}
use Rattle.ratios.specs.Ratio.{ratio, reduced, zero_ratio}
use Rattle.datasets.specs.Dataset.{dataset_of, empty, set_at}
use Rattle.stability_laws.specs.Worlds.{ConcatWithItselfBreaks, GreaterNormBreaks, JoinWithItselfBreaks, SignedWeightsBreak, WholeGapsBreak}

pub greater_norm_breaks : GreaterNormBreaks
unfolding dataset_of empty set_at ratio reduced zero_ratio gcd gcd_within
greater_norm_breaks = (same_parts _ _ refl refl, same_parts _ _ refl refl, refl)

pub whole_gaps_break : WholeGapsBreak
unfolding dataset_of empty set_at ratio reduced zero_ratio gcd gcd_within
whole_gaps_break = (same_parts _ _ refl refl, same_parts _ _ refl refl, refl)

pub signed_weights_break : SignedWeightsBreak
unfolding dataset_of empty set_at ratio reduced zero_ratio gcd gcd_within
signed_weights_break = (same_parts _ _ refl refl, same_parts _ _ refl refl, refl)

pub concat_with_itself_breaks : ConcatWithItselfBreaks
unfolding dataset_of empty set_at ratio reduced zero_ratio gcd gcd_within
concat_with_itself_breaks = (same_parts _ _ refl refl, same_parts _ _ refl refl, refl)

pub join_with_itself_breaks : JoinWithItselfBreaks
unfolding dataset_of empty set_at ratio reduced zero_ratio gcd gcd_within
join_with_itself_breaks = (same_parts _ _ refl refl, same_parts _ _ refl refl, refl)
