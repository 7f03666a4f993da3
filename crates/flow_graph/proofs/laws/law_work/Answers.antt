use Rattle.std.proofs.Common.{ap}
use Rattle.std.specs.Prelude.{◌+◌, ◌*◌}
use Rattle.flow_graph.proofs.Worked.{edge_work}
use Rattle.flow_graph.proofs.laws.law_work.Goals as goal

pub returns-clause-work : goal.returns-clause-work
returns-clause-work c = edge_work

pub returns-clause-ticks : goal.returns-clause-ticks
returns-clause-ticks c = ap (λ n. 8 * n + 8) edge_work
