use Rattle.std.proofs.Common.{◌≡◌, ◌<◌, map, take, length, arith, rules}
use Rattle.std.proofs.lemmas.List.{length-map, take_all}
use Rattle.serde_json.specs.View.{view}
use Rattle.plan_reader.proofs.RunsReadBack.{reads-runs, is_run-at, next_run_reads}
use Rattle.plan_reader.proofs.runs.runs_to_json.Goals as goal

pub run_to_json-requires : goal.run_to_json-requires
run_to_json-requires c = is_run-at c.args.runs.now c.loop-i.i c.at.result.now c.requires c.at.ensures

pub loop-i-preserved : goal.loop-i-preserved
loop-i-preserved c = record {
  read = λ place. rw c.in_ok-push.ensures.items
      (next_run_reads place c.loop-i.values.items c.args.runs.now c.loop-i.i c.in_ok-run_to_json.field-0 c.at.result.now
      c.at.ensures c.len.ensures.few (c.loop-i.invariant.read place) (c.in_ok-run_to_json.ensures place));
  len = search rules;
}

pub returns : goal.returns
returns c =
    let all : take c.loop-i.i c.args.runs.now ≡ c.args.runs.now = take_all c.loop-i.i c.args.runs.now (omega arith) in
    let some : 0 < length (map view c.loop-i.values.items) = (rw (length-map c.loop-i.values.items view) (omega arith)) in
    rw c.from.ensures (reads-runs c.args.runs.now (map view c.loop-i.values.items) some
    (λ place. (rw all at (c.loop-i.invariant.read place))))
