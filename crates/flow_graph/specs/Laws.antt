-- The work of a plan on a small source, worked out.
use Rattle.std.specs.Prelude.{◌≡◌, [], ◌∷◌}
use Rattle.worked_plans.specs.Paths.{edge_types, edges, one_way, paths, triangle}
use Rattle.flow_graph.specs.Work.{most_ticks, plan_work}

-- the edge from 1 to 3 leaves the triangle: 1 row of the source changes, 8 of the join and 4 of the filter; the
-- work at the join's keys 1 and 3 is 5 each, and at the filter's 4 keys 2 each
abbrev pub EdgeWork : Type 0
EdgeWork = plan_work paths edge_types (edges triangle ∷ []) (edges one_way ∷ []) ≡ 31

-- so preparing that takes at most 256 ticks
abbrev pub EdgeTicks : Type 0
EdgeTicks = most_ticks paths edge_types (edges triangle ∷ []) (edges one_way ∷ []) ≡ 256
