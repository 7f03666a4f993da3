use Rattle.std.proofs.Common.{◌≡◌, map, drop, length}
use Rattle.serde_json.specs.View.{view}
use Rattle.json_fields.specs.Walk.{each}
use Rattle.json_fields.proofs.Members.{with_front}
use Rattle.expr_text.specs.Exprs.{member_in}
use Rattle.expr_text.proofs.read.all_exprs.Given as goal

abbrev pub invariant-loop-value : goal.invariant-loop-value
invariant-loop-value l = record {
  read : with_front l.exprs.items (each (member_in l.place) l.value-index (map view (drop l.value-index l.list))) ≡ each (member_in l.place) 0 (map view l.list);
  len : length l.exprs.items ≡ l.value-index;
}
