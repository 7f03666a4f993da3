use Rattle.datasets.proofs.Distances.{AreRising-differing, differing-are}
use Rattle.datasets.proofs.law_differing.Goals as goal

pub returns : goal.returns
returns c = record { rise = AreRising-differing; differ = differing-are }
