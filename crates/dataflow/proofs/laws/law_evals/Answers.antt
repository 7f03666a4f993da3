use Rattle.dataflow.proofs.Evaluated.{evals-at}
use Rattle.dataflow.proofs.laws.law_evals.Goals as goal

pub returns : goal.returns
returns c = λ ms wires source_count F i size wired within. evals-at ms wires source_count F i size wired within
