use Rattle.std.proofs.Common.{◌≡◌, ◌≤◌, map, drop, length}
use Rattle.serde_json.specs.View.{view}
use Rattle.json_fields.proofs.Members.{with_front}
use Rattle.plan_model.specs.Pieces.{piece_count}
use Rattle.plan_model.specs.Sizes.{max_pieces}
use Rattle.plan_reader.specs.Runs.{runs_after}
use Rattle.plan_reader.proofs.runs.all_runs.Given as goal

abbrev pub invariant-loop-value : goal.invariant-loop-value
invariant-loop-value l = record {
  read : with_front l.runs.items (runs_after l.place l.pieces (map view (drop l.value-index l.list))) ≡ runs_after l.place 0 (map view l.list);
  count : piece_count l.runs.items ≡ l.pieces;
  few : l.pieces ≤ max_pieces;
  len : length l.runs.items ≡ l.value-index;
}
