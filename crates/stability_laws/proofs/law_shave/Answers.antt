use Rattle.std.proofs.lemmas.List.Elements.{recursion_from_All}
use Rattle.ratios.specs.Ratio.{◌≼◌, zero_ratio}
use Rattle.ratios.proofs.Field.{le_from}
use Rattle.ratios.proofs.Linear.{◌⊑◌}
use Rattle.datasets.proofs.Members.{AllByRecursion-weaker}
use Rattle.stability_laws.proofs.Shares.{shave_stable}
use Rattle.stability_laws.proofs.law_shave.Goals as goal

pub returns : goal.returns
returns c = λ fs h A B.
    (shave_stable fs (AllByRecursion-weaker (λ f. zero_ratio ≼ f) (λ f. zero_ratio ⊑ f) fs (le_from zero_ratio) (recursion_from_All (λ f. zero_ratio ≼ f) fs h)) A B).le
