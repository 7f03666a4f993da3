use Rattle.std.proofs.Common.{◌<◌, ◌++◌, length, length-set, ◌∙◌, arith}
use Rattle.plan_checker.proofs.Members.{written_next}
use Rattle.plan_checker.proofs.columns.appended.Goals as goal

pub loop-i-preserved : goal.loop-i-preserved
loop-i-preserved c =
    let inside : c.loop-i.i < length c.loop-i.kinds = omega arith in (
      length-set c.loop-i.kinds c.loop-i.i c.at_either.result ∙ c.loop-i.invariant.0,
      written_next (c.args.left ++ c.args.right) c.loop-i.kinds c.loop-i.i c.at_either.result c.at_either.ensures inside c.loop-i.invariant.1,
    )
