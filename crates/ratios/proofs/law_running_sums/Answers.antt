use Rattle.ratios.proofs.Sums.{running_sums_are_of_fronts, runs_in_range_by_fronts, runs_in_range_is_no_place}
use Rattle.ratios.proofs.law_running_sums.Goals as goal

pub returns : goal.returns
returns c = record { fronts = running_sums_are_of_fronts; in_range = runs_in_range_by_fronts; place = runs_in_range_is_no_place }
