use Rattle.std.proofs.Common.{ap, ◌∙◌}
use Rattle.std.proofs.lemmas.Result.{err_from_is_err_and, IfErr-weaker, IfOk-weaker}
use Rattle.datasets.specs.Dataset.{at}
use Rattle.weighted_set.specs.declared.part_op.Side.TheVariants.{Left, Right}
use Rattle.engines.proofs.WholeInputs.{changes_of_committed, factored_committed, made_anew}
use Rattle.engines.proofs.whole.work_out.Goals as goal

pub prepare-requires-clause-changes : goal.prepare-requires-clause-changes
prepare-requires-clause-changes g c =
    let m = c.requires.inputs.1.1.1.1 in
    (changes_of_committed c.args.left.now c.args.left_input.now _ _ m.stands.left_is m.left_changes).0

pub prepare-requires-2-clause-changes : goal.prepare-requires-2-clause-changes
prepare-requires-2-clause-changes g c =
    let m = c.requires.inputs.1.1.1.1 in
    (changes_of_committed c.args.right.now c.args.right_input.now _ _ m.stands.right_is m.right_changes).0

pub parts_of-requires-clause-rows : goal.parts_of-requires-clause-rows
parts_of-requires-clause-rows g c x n =
    let m = c.requires.inputs.1.1.1.1 in
    (g.met.O.PartOp.takes_rows c.args.op.now _ _ x m.takes_before).0 (λ z. n (ap (λ A. at A x) (c.prepare.ensures.committed ∙ m.stands.left_is) ∙ z))

pub parts_of-requires-clause-factored : goal.parts_of-requires-clause-factored
parts_of-requires-clause-factored g c =
    let m = c.requires.inputs.1.1.1.1 in
    let fit = (g.met.O.PartOp.fits_by_part c.args.op.now _ _ m.takes_before m.left_in_range m.right_in_range).0 m.fits_before in
    factored_committed (g.O.PartOp.keys c.args.op.now Left) c.requires.inputs.0 c.args.left_input.now c.prepare.new.self c.prepare.ensures.committed m.stands.left_is fit.0

pub parts_of-requires-2-clause-rows : goal.parts_of-requires-2-clause-rows
parts_of-requires-2-clause-rows g c x n =
    let m = c.requires.inputs.1.1.1.1 in
    (g.met.O.PartOp.takes_rows c.args.op.now _ _ x m.takes_before).1 (λ z. n (ap (λ A. at A x) (c.prepare-2.ensures.committed ∙ m.stands.right_is) ∙ z))

pub parts_of-requires-2-clause-factored : goal.parts_of-requires-2-clause-factored
parts_of-requires-2-clause-factored g c =
    let m = c.requires.inputs.1.1.1.1 in
    let fit = (g.met.O.PartOp.fits_by_part c.args.op.now _ _ m.takes_before m.left_in_range m.right_in_range).0 m.fits_before in
    factored_committed (g.O.PartOp.keys c.args.op.now Right) c.requires.inputs.1.0 c.args.right_input.now c.prepare-2.new.self c.prepare-2.ensures.committed m.stands.right_is fit.1

pub stage-requires : goal.stage-requires
stage-requires g c =
    let r = c.requires.inputs in
    (r.0, (r.1.0, (r.1.1.0, (r.1.1.1.0, made_anew g.O.PartOp c.args.op.now c.in_ok-left_parts.ensures.made c.in_ok-right_parts.ensures.made c.prepare.ensures.committed c.prepare-2.ensures.committed r.1.1.1.1))))

pub returns-in_err-left_parts-clause-range : goal.returns-in_err-left_parts-clause-range
returns-in_err-left_parts-clause-range g c =
    let p = err_from_is_err_and c.from_residual-in_err-left_parts.result c.from_residual-in_err-left_parts.ensures.1 in
    rw (p.1, p.2) (λ e. absurd (c.in_err-left_parts.ensures.in_range e))

pub returns-in_err-right_parts-clause-range : goal.returns-in_err-right_parts-clause-range
returns-in_err-right_parts-clause-range g c =
    let p = err_from_is_err_and c.from_residual-in_err-right_parts.result c.from_residual-in_err-right_parts.ensures.1 in
    rw (p.1, p.2) (λ e. absurd (c.in_err-right_parts.ensures.in_range e))

pub returns-clause-ok : goal.returns-clause-ok
returns-clause-ok g c =
    IfOk-weaker c.stage.result _ _ (λ changes h A B C D m.
    let answered = h A B C D (made_anew g.O.PartOp c.args.op.now c.in_ok-left_parts.ensures.made c.in_ok-right_parts.ensures.made c.prepare.ensures.committed c.prepare-2.ensures.committed m) in
    record {
      changes = answered.changes;
      fits = answered.fits;
      pending = record {
        left_is = c.in_ok-prepare.ensures.ok ∙ (changes_of_committed c.args.left.now c.args.left_input.now A C m.stands.left_is m.left_changes).1;
        right_is = c.in_ok-prepare-2.ensures.ok ∙ (changes_of_committed c.args.right.now c.args.right_input.now B D m.stands.right_is m.right_changes).1;
      };
    }) c.stage.ensures.ok

pub returns-clause-range : goal.returns-clause-range
returns-clause-range g c =
    IfErr-weaker c.stage.result _ _ (λ e h range A B C D m.
    h range A B C D (made_anew g.O.PartOp c.args.op.now c.in_ok-left_parts.ensures.made c.in_ok-right_parts.ensures.made c.prepare.ensures.committed c.prepare-2.ensures.committed m)) c.stage.ensures.range
