use Rattle.plan_model.proofs.Accepted.{Passes-first_fault}
use Rattle.plan_checker.proofs.made.Made.push.Goals as goal

pub columns_of-columns-requires-clause-narrow : goal.columns_of-columns-requires-clause-narrow
columns_of-columns-requires-clause-narrow c =
    let self = c.args.self.now in
    rw c.as_slice.ensures.value ((Passes-first_fault c.args.types.now c.args.step.now self.columns.items self.signs.items c.args.counts c.requires.faultless).narrow)
