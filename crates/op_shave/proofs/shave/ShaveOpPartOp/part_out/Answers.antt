-- The pieces of the part's row, and none where it has no row.
use Rattle.std.proofs.Common.{◌++◌, ap, ap₂, sym, ◌∙◌}
use Rattle.operators.specs.Operators.{shaved}
use Rattle.plan_model.specs.Evaluation.{pieces}
use Rattle.weighted_set.specs.Changes.{entries_of}
use Rattle.weighted_set.specs.Parts.{listed}
use Rattle.op_parts.specs.OneRow.{one_row}
use Rattle.op_shave.specs.Shave.{ShaveParts, shave_fits}
use Rattle.op_shave.proofs.OwnParts.{entries-none, fits-none, none_listed, only_one}
use Rattle.op_shave.proofs.shave.ShaveOpPartOp.part_out.Goals as goal

pub returns-in_default-clause-ok : goal.returns-in_default-clause-ok
returns-in_default-clause-ok g c =
    let left = c.args.left.now in
    ap entries_of c.clear.ensures.items ∙ sym (entries-none (pieces c.args.self.now.runs) left c.requires.left_listed (none_listed left c.in_default.ensures.value))

pub returns-in_default-clause-fits : goal.returns-in_default-clause-fits
returns-in_default-clause-fits g c =
    let left = c.args.left.now in fits-none (pieces c.args.self.now.runs) left c.requires.left_listed (none_listed left c.in_default.ensures.value)

pub returns-in-Ok-clause-ok : goal.returns-in-Ok-clause-ok
returns-in-Ok-clause-ok g c =
    let e = c.in-Some.entry.now in
    let one = only_one c.args._key.now c.args.left.now c.requires.left_listed c.requires.takes.0 e c.in-Some.ensures.value in
    c.in-Ok.ensures.ok
    ∙ ap (λ xs. entries_of xs ++ (shaved (pieces c.self.inside.runs) (one_row e.row e.weight)).entries) c.clear.ensures.items
    ∙ ap₂ (λ (op : ShaveParts) list. (shaved (pieces op.runs) (listed list)).entries) c.self.view_is (sym one)

pub returns-in-Ok-clause-fits : goal.returns-in-Ok-clause-fits
returns-in-Ok-clause-fits g c =
    let one = only_one c.args._key.now c.args.left.now c.requires.left_listed c.requires.takes.0 c.in-Some.entry.now c.in-Some.ensures.value in
    sym (ap₂ (λ (op : ShaveParts) list. shave_fits (pieces op.runs) (listed list)) c.self.view_is (sym one)) ∙ c.in-Ok.ensures.fits

pub returns-in-Err-clause-range : goal.returns-in-Err-clause-range
returns-in-Err-clause-range g c out =
    let one = only_one c.args._key.now c.args.left.now c.requires.left_listed c.requires.takes.0 c.in-Some.entry.now c.in-Some.ensures.value in
    sym (ap₂ (λ (op : ShaveParts) list. shave_fits (pieces op.runs) (listed list)) c.self.view_is (sym one)) ∙ c.in-Err.ensures.range out
