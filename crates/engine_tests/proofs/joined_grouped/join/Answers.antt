-- Both engines begin without rows.
use Rattle.std.proofs.Common.{ap, ◌∙◌}
use Rattle.op_join.specs.Join.{JoinParts}
use Rattle.engine_tests.proofs.Empty.{join_fits-empty, takes-sides}
use Rattle.engine_tests.proofs.Trials.{Serves-start}
use Rattle.engine_tests.proofs.joined_grouped.join.Goals as goal

pub follow_both-requires-clause-whole : goal.follow_both-requires-clause-whole
follow_both-requires-clause-whole g c =
    let engine = c.new-whole.result in
    let made = c.new-whole.ensures.op ∙ c.new-join.ensures in
    let left = ap (λ (op : JoinParts). op.left) made ∙ c.two_ints.ensures in
    let right = ap (λ (op : JoinParts). op.right) made ∙ c.two_ints-2.ensures in
    Serves-start _ engine c.new-whole.ensures.idle c.new-whole.ensures.stands (join_fits-empty engine.op) (λ C D has have. takes-sides engine.op.left engine.op.right left right C D has have)

pub follow_both-requires-clause-keyed : goal.follow_both-requires-clause-keyed
follow_both-requires-clause-keyed g c =
    let engine = c.new-keyed.result in
    let made = c.new-keyed.ensures.op ∙ c.new-other.ensures in
    let left = ap (λ (op : JoinParts). op.left) made ∙ c.two_ints-3.ensures in
    let right = ap (λ (op : JoinParts). op.right) made ∙ c.two_ints-4.ensures in
    Serves-start _ engine c.new-keyed.ensures.idle c.new-keyed.ensures.stands (join_fits-empty engine.op) (λ C D has have. takes-sides engine.op.left engine.op.right left right C D has have)
