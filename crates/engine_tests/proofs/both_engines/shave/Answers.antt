-- Both engines begin without rows.
use Rattle.std.proofs.Common.{ap, ◌∙◌}
use Rattle.op_shave.specs.Shave.{ShaveParts}
use Rattle.plan_model.specs.Evaluation.{pieces}
use Rattle.engine_tests.proofs.Empty.{shave_fits-empty, takes-one}
use Rattle.engine_tests.proofs.Trials.{Serves-start}
use Rattle.engine_tests.proofs.both_engines.shave.Goals as goal

pub follow_both-requires-clause-whole : goal.follow_both-requires-clause-whole
follow_both-requires-clause-whole g c =
    let engine = c.new-whole.result in
    let is = ap (λ (op : ShaveParts). op.cols) (c.new-whole.ensures.op ∙ c.new-shave.ensures) ∙ c.two_ints.ensures in
    Serves-start _ engine c.new-whole.ensures.idle c.new-whole.ensures.stands (shave_fits-empty (pieces engine.op.runs)) (λ C D left right. takes-one engine.op.cols is C left)

pub follow_both-requires-clause-keyed : goal.follow_both-requires-clause-keyed
follow_both-requires-clause-keyed g c =
    let engine = c.new-keyed.result in
    let is = ap (λ (op : ShaveParts). op.cols) (c.new-keyed.ensures.op ∙ c.new-other.ensures) ∙ c.two_ints-2.ensures in
    Serves-start _ engine c.new-keyed.ensures.idle c.new-keyed.ensures.stands (shave_fits-empty (pieces engine.op.runs)) (λ C D left right. takes-one engine.op.cols is C left)
