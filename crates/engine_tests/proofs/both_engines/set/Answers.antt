-- Both engines begin without rows.
use Rattle.std.proofs.Common.{ap, ◌∙◌}
use Rattle.op_setwise.specs.Setwise.{SetParts}
use Rattle.engine_tests.proofs.Empty.{set_fits-empty, takes-both}
use Rattle.engine_tests.proofs.Trials.{Serves-start}
use Rattle.engine_tests.proofs.both_engines.set.Goals as goal

pub follow_both-requires-clause-whole : goal.follow_both-requires-clause-whole
follow_both-requires-clause-whole g c =
    let engine = c.new-whole.result in
    let is = ap (λ (op : SetParts). op.cols) (c.new-whole.ensures.op ∙ c.new-set.ensures) ∙ c.two_ints.ensures in
    Serves-start _ engine c.new-whole.ensures.idle c.new-whole.ensures.stands (set_fits-empty engine.op) (λ C D left right. takes-both engine.op.cols is C D left right)

pub follow_both-requires-clause-keyed : goal.follow_both-requires-clause-keyed
follow_both-requires-clause-keyed g c =
    let engine = c.new-keyed.result in
    let is = ap (λ (op : SetParts). op.cols) (c.new-keyed.ensures.op ∙ c.new-other.ensures) ∙ c.two_ints-2.ensures in
    Serves-start _ engine c.new-keyed.ensures.idle c.new-keyed.ensures.stands (set_fits-empty engine.op) (λ C D left right. takes-both engine.op.cols is C D left right)
