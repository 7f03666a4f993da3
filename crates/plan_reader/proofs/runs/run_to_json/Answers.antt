use Rattle.std.proofs.Common.{◌≡◌, arith}
use Rattle.std.proofs.lemmas.Result.{IfOk-weaker}
use Rattle.serde_json.specs.View.{view}
use Rattle.plan_reader.specs.Written.{RunReadsAs, run_data}
use Rattle.plan_reader.proofs.RunsReadBack.{reads-run}
use Rattle.plan_reader.proofs.runs.run_to_json.Goals as goal

pub returns : goal.returns
returns c =
    IfOk-weaker c.run_of.result (λ v. view v ≡ run_data c.as_str.result.now c.args.run.now.times) (λ v. RunReadsAs c.args.run.now (view v))
    (λ v is. rw (is, c.as_str.ensures.value) (reads-run c.args.run.now _ c.requires (omega arith) c.in_ok-weight.ensures)) c.run_of.ensures
