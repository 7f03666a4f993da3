use Rattle.io_edge.proofs.PathTests.{path_decides}
use Rattle.io_edge.proofs.path.law_path.Goals as goal

pub returns : goal.returns
returns c = path_decides
