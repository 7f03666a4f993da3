-- How far apart a plan's outputs are in two worlds: no further than its sources, each as often as the plan uses it.
use Rattle.std.specs.Prelude.{ℕ, pos, List, length, map}
use Rattle.std.specs.List.{range_with_len}
use Rattle.ratios.specs.Ratio.{Ratio, ◌≼◌, ratio, ratio_mul}
use Rattle.ratios.specs.Sums.{ratio_sum}
use Rattle.datasets.specs.Dataset.{dist}
use Rattle.plan_model.specs.declared.source_types.SourceType.{SourceType}
use Rattle.plan_model.specs.declared.step.Step.{Step}
use Rattle.plan_model.specs.Evaluation.{Family, dataset_at, eval}
use Rattle.plan_model.specs.Types.{Keeps}
use Rattle.plan_model.specs.Uses.{count_at}

-- n, as a ratio
abbrev pub whole : ℕ → Ratio
whole n = ratio (pos n) (pos 1)

-- how far a source is apart in two worlds, as often as the list says
abbrev pub source_charge : List ℕ → Family → Family → ℕ → Ratio
source_charge uses F G s = ratio_mul (whole (count_at uses s)) (dist (dataset_at F s) (dataset_at G s))

-- that of all sources
abbrev pub charged : List ℕ → Family → Family → Ratio
charged uses F G = ratio_sum (map (source_charge uses F G) (range_with_len 0 (length uses)))

-- in any two worlds that keep the kinds and signs of the sources, the plan's outputs are no further apart than that
abbrev pub IsStable : List Step → List SourceType → List ℕ → Type 0
IsStable p types uses = (F G : Family) → Keeps types F → Keeps types G →
    dist (eval p types F) (eval p types G) ≼ charged uses F G
