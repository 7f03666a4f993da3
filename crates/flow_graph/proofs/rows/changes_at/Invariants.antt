use Rattle.std.proofs.Common.{◌≡◌, ℕ, ◌<◌, [], get_or, length, map}
use Rattle.std.specs.Prelude.{if◌then◌else◌, nat_eq}
use Rattle.flow_graph.proofs.rows.changes_at.Given as goal

abbrev pub invariant-loop-s : goal.invariant-loop-s
invariant-loop-s l = record {
  length : length l.lists.items ≡ l.s;
  each : (k : ℕ) → k < l.s → get_or (map (λ x. x.now) l.lists.items) k [] ≡ (if nat_eq k l.source then l.changes else []);
}
