-- What the walk over all runs knows, run by run.
use Rattle.std.specs.Prelude.{◌+◌, ◌-◌, ◌≡◌, ◌≤◌, ◌++◌, drop, length, replicate, take}
use Rattle.std.proofs.Common.{arith, ap, subst, sym, ◌∙◌}
use Rattle.std.proofs.lemmas.List.{length-append, length-replicate, take_all}
use Rattle.std.proofs.lemmas.Result.{err_from_is_err_and}
use Rattle.ratios.specs.Range.{checked}
use Rattle.plan_model.specs.Evaluation.{pieces}
use Rattle.weighted_set.specs.Changes.{entries_of}
use Rattle.op_shave.specs.Shavings.{AreShaved, left_after, left_in_range}
use Rattle.op_shave.proofs.OneShaved.{added_by_walk, fits_by_walk, out-shaved}
use Rattle.op_shave.proofs.RunPieces.{AllAbove-pieces, first_piece, pieces_fit, pieces_more, pieces_split}
use Rattle.op_shave.proofs.Walks.{out_between, out_here, shaved_all, shaved_more}
use Rattle.op_shave.proofs.pieces.push_pieces.Goals as goal

pub returns-in_default-clause-range : goal.returns-in_default-clause-range
returns-in_default-clause-range c _ =
    let x = c.args.row.now in
    let w = c.args.weight in
    let runs = c.args.runs.now in
    let run = c.at-run.result.now in
    let i = c.loop-at.at in
    let front = pieces (take i runs) in
    let back = pieces (drop (i + 1) runs) in
    let old = entries_of c.args.into.now.items in
    let mid = entries_of c.loop-at.into.items in
    let before = subst (AreShaved x 0 front w old mid) c.in_default.is c.loop-at.invariant.1 in
    let split = pieces_split runs i run c.at-run.ensures ∙ ap (λ fs. front ++ (fs ++ back)) (first_piece runs i run c.at-run.ensures c.requires.runs) in
    out-shaved x (pieces runs) w (AllAbove-pieces runs c.requires.runs) c.numer-numerator.ensures.in_range
    (ap (λ fs. left_in_range fs w) split ∙ out_here x 0 front w old mid before run.weight (replicate (run.times - 1) run.weight ++ back))

pub returns-then-not-is_above_zero-clause-ok : goal.returns-then-not-is_above_zero-clause-ok
returns-then-not-is_above_zero-clause-ok c =
    let x = c.args.row.now in
    let w = c.args.weight in
    let runs = c.args.runs.now in
    let run = c.at-run.result.now in
    let i = c.loop-at.at in
    let front = pieces (take i runs) in
    let back = replicate run.times run.weight ++ pieces (drop (i + 1) runs) in
    let old = entries_of c.args.into.now.items in
    let mid = entries_of c.loop-at.into.items in
    let v = c.in-Some.left in
    let none = sym c.is_above_zero.ensures.value ∙ c.if-not-is_above_zero.true in
    let before = subst (AreShaved x 0 front w old mid) c.in-Some.is c.loop-at.invariant.1 in
    let whole = subst (λ fs. AreShaved x 0 fs w old mid (checked (left_after v back))) (sym (pieces_split runs i run c.at-run.ensures)) (shaved_all x 0 front w old mid v before back none) in
    added_by_walk x (pieces runs) w old mid (checked (left_after v back)) (AllAbove-pieces runs c.requires.runs) whole

pub returns-then-not-is_above_zero-clause-fits : goal.returns-then-not-is_above_zero-clause-fits
returns-then-not-is_above_zero-clause-fits c =
    let x = c.args.row.now in
    let w = c.args.weight in
    let runs = c.args.runs.now in
    let run = c.at-run.result.now in
    let i = c.loop-at.at in
    let front = pieces (take i runs) in
    let back = replicate run.times run.weight ++ pieces (drop (i + 1) runs) in
    let old = entries_of c.args.into.now.items in
    let mid = entries_of c.loop-at.into.items in
    let v = c.in-Some.left in
    let none = sym c.is_above_zero.ensures.value ∙ c.if-not-is_above_zero.true in
    let before = subst (AreShaved x 0 front w old mid) c.in-Some.is c.loop-at.invariant.1 in
    let whole = subst (λ fs. AreShaved x 0 fs w old mid (checked (left_after v back))) (sym (pieces_split runs i run c.at-run.ensures)) (shaved_all x 0 front w old mid v before back none) in
    fits_by_walk x (pieces runs) w old mid (checked (left_after v back)) (AllAbove-pieces runs c.requires.runs) whole c.numer-numerator.ensures.in_range

pub push_run-requires-clause-few : goal.push_run-requires-clause-few
push_run-requires-clause-few c = omega (arith, pieces_fit c.args.runs.now c.loop-at.at c.at-run.result.now c.at-run.ensures c.loop-at.place c.loop-at.invariant.0, c.requires.few)

pub returns-in_err-rest-clause-range : goal.returns-in_err-rest-clause-range
returns-in_err-rest-clause-range c =
    let x = c.args.row.now in
    let w = c.args.weight in
    let runs = c.args.runs.now in
    let run = c.at-run.result.now in
    let i = c.loop-at.at in
    let front = pieces (take i runs) in
    let own = replicate run.times run.weight in
    let back = pieces (drop (i + 1) runs) in
    let old = entries_of c.args.into.now.items in
    let mid = entries_of c.loop-at.into.items in
    let v = c.in-Some.left in
    let before = subst (AreShaved x 0 front w old mid) c.in-Some.is c.loop-at.invariant.1 in
    let p = err_from_is_err_and c.from_residual.result c.from_residual.ensures.1 in
    rw (p.1, p.2) (λ e.
    out-shaved x (pieces runs) w (AllAbove-pieces runs c.requires.runs) c.numer-numerator.ensures.in_range
    (ap (λ fs. left_in_range fs w) (pieces_split runs i run c.at-run.ensures) ∙ out_between x 0 front w old mid v before own back (c.in_err-rest.ensures.range e)))

pub overflow_add-place : goal.overflow_add-place
overflow_add-place c = let n = pieces_fit c.args.runs.now c.loop-at.at c.at-run.result.now c.at-run.ensures c.loop-at.place c.loop-at.invariant.0 in omega (arith, c.requires.few)

pub loop-at-preserved : goal.loop-at-preserved
loop-at-preserved c =
    let x = c.args.row.now in
    let w = c.args.weight in
    let runs = c.args.runs.now in
    let run = c.at-run.result.now in
    let i = c.loop-at.at in
    let front = pieces (take i runs) in
    let own = replicate run.times run.weight in
    let old = entries_of c.args.into.now.items in
    let mid = entries_of c.loop-at.into.items in
    let new = entries_of c.push_run.new.into.items in
    let rest = c.in_ok-rest.rest in
    let before = subst (AreShaved x 0 front w old mid) c.in-Some.is c.loop-at.invariant.1 in
    let longer = pieces_more runs i run c.at-run.ensures in
    let place : c.loop-at.place ≡ 0 + length front = omega (arith, c.loop-at.invariant.0) in (
      omega (arith, c.loop-at.invariant.0, ap length longer, length-append front own, length-replicate run.times run.weight),
      subst (λ fs. AreShaved x 0 fs w old new rest) (sym longer) (shaved_more x 0 front w old mid c.in-Some.left before c.loop-at.place own new rest place c.in_ok-rest.ensures.ok),
    )

pub returns-clause-ok : goal.returns-clause-ok
returns-clause-ok c =
    let x = c.args.row.now in
    let w = c.args.weight in
    let runs = c.args.runs.now in
    let old = entries_of c.args.into.now.items in
    let mid = entries_of c.loop-at.into.items in
    let past : length runs ≤ c.loop-at.at = omega (arith, c.len-at-end.ensures.value) in
    let whole = subst (λ rs. AreShaved x 0 (pieces rs) w old mid c.loop-at.rest) (take_all c.loop-at.at runs past) c.loop-at.invariant.1 in
    added_by_walk x (pieces runs) w old mid c.loop-at.rest (AllAbove-pieces runs c.requires.runs) whole

pub returns-clause-fits : goal.returns-clause-fits
returns-clause-fits c =
    let x = c.args.row.now in
    let w = c.args.weight in
    let runs = c.args.runs.now in
    let old = entries_of c.args.into.now.items in
    let mid = entries_of c.loop-at.into.items in
    let past : length runs ≤ c.loop-at.at = omega (arith, c.len-at-end.ensures.value) in
    let whole = subst (λ rs. AreShaved x 0 (pieces rs) w old mid c.loop-at.rest) (take_all c.loop-at.at runs past) c.loop-at.invariant.1 in
    fits_by_walk x (pieces runs) w old mid c.loop-at.rest (AllAbove-pieces runs c.requires.runs) whole c.numer-numerator.ensures.in_range
