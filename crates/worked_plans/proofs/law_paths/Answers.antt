use Rattle.worked_plans.proofs.Computed.{line_paths, one_way_paths, triangle_paths}
use Rattle.worked_plans.proofs.law_paths.Goals as goal

pub returns-clause-triangle : goal.returns-clause-triangle
returns-clause-triangle c = triangle_paths

pub returns-clause-line : goal.returns-clause-line
returns-clause-line c = line_paths

pub returns-clause-one_way : goal.returns-clause-one_way
returns-clause-one_way c = one_way_paths
