-- The engine may be asked for the changes, and it serves what is committed then.
use Rattle.std.proofs.Common.{◌∙◌}
use Rattle.weighted_set.specs.Changes.{applied}
use Rattle.engine_tests.proofs.Trials.{MayBecome-served, Serves-settled, left_applied, right_applied}
use Rattle.engine_tests.proofs.turns.change.Goals as goal

pub prepare-requires-clause-inputs : goal.prepare-requires-clause-inputs
prepare-requires-clause-inputs g c =
    let A = c.args.left.now.committed in
    let B = c.args.right.now.committed in
    let left = c.args.on_left.now in
    let right = c.args.on_right.now in (
      A,
      (
        B,
        (
          applied A left,
          (
            applied B right,
            MayBecome-served g.E.Operator.standing c.args.engine.now A B left right c.requires.serves c.requires.left_rows c.requires.right_rows
                c.in_ok-_left.ensures.in_range c.in_ok-_right.ensures.in_range c.requires.on_left c.requires.on_right,
          ),
        ),
      ),
    )

pub returns-in-Ok : goal.returns-in-Ok
returns-in-Ok g c =
    let A = c.args.left.now.committed in
    let B = c.args.right.now.committed in
    let left = c.args.on_left.now in
    let right = c.args.on_right.now in
    let of = g.E.Operator.standing in
    let engine = c.args.engine.now in
    let serves = c.requires.serves in
    let may = MayBecome-served of engine A B left right serves c.requires.left_rows c.requires.right_rows
    c.in_ok-_left.ensures.in_range c.in_ok-_right.ensures.in_range c.requires.on_left c.requires.on_right in
    let answered = c.in-Ok.ensures.ok A B (applied A left) (applied B right) may in
    Serves-settled of engine c.settle.new.engine A B (applied A left) (applied B right) c.args.is_kept serves
    (left_applied of engine A B left right serves c.requires.left_rows c.requires.right_rows)
    (right_applied of engine A B left right serves c.requires.left_rows c.requires.right_rows)
    answered.fits c.settle.ensures.idle
    (c.settle.ensures.stands A B (applied A left) (applied B right) (c.prepare.ensures.committed A B serves.stands) answered.pending)
    (c.settle.ensures.same ∙ c.prepare.ensures.same)
