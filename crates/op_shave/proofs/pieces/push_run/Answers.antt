-- What the walk over a run's pieces knows, piece by piece.
use Rattle.std.specs.Prelude.{◌+◌, ◌-◌, ◌≡◌, [], ◌∷◌, ◌++◌, replicate, Some}
use Rattle.std.proofs.Common.{arith, ap, subst, sym, ◌∙◌}
use Rattle.std.proofs.lemmas.List.{length-replicate, replicate_more}
use Rattle.ratios.specs.Range.{checked}
use Rattle.weighted_set.specs.Changes.{entries_of}
use Rattle.op_shave.specs.Shavings.{AreShaved, left_in_range, left_of}
use Rattle.op_shave.proofs.Above.{ratio_min-is}
use Rattle.op_shave.proofs.RunPieces.{run_split}
use Rattle.op_shave.proofs.Walks.{none_is_left, out_here, shaved_all, shaved_more, shaved_one, shaved_start}
use Rattle.op_shave.proofs.pieces.push_run.Goals as goal

pub loop-at-init : goal.loop-at-init
loop-at-init c = shaved_start c.args.row.now c.args.place c.args.weight (entries_of c.args.into.now.items) c.numer-numerator.ensures.in_range

pub returns-in_default-clause-range : goal.returns-in_default-clause-range
returns-in_default-clause-range c _ =
    let x = c.args.row.now in
    let w = c.args.weight in
    let f = c.args.run.weight in
    let i = c.loop-at.at in
    let old = entries_of c.args.into.now.items in
    let mid = entries_of c.loop-at.into.items in
    let before = subst (AreShaved x c.args.place (replicate i f) w old mid) c.in_default.is c.loop-at.invariant in
    ap (λ fs. left_in_range fs w) (run_split f c.args.run.times i c.loop-at-test.true)
    ∙ out_here x c.args.place (replicate i f) w old mid before f (replicate (c.args.run.times - i - 1) f)

pub returns-then-not-is_above_zero-clause-ok : goal.returns-then-not-is_above_zero-clause-ok
returns-then-not-is_above_zero-clause-ok c =
    let x = c.args.row.now in
    let w = c.args.weight in
    let f = c.args.run.weight in
    let i = c.loop-at.at in
    let old = entries_of c.args.into.now.items in
    let mid = entries_of c.loop-at.into.items in
    let v = c.in-Some.left in
    let back = replicate (c.args.run.times - i - 1) f in
    let none = sym c.is_above_zero.ensures.value ∙ c.if-not-is_above_zero.true in
    let before = subst (AreShaved x c.args.place (replicate i f) w old mid) c.in-Some.is c.loop-at.invariant in
    let whole = shaved_all x c.args.place (replicate i f) w old mid v before (f ∷ back) none in
    subst (λ fs. AreShaved x c.args.place fs w old mid (Some c.zero.result)) (sym (run_split f c.args.run.times i c.loop-at-test.true))
    (subst (AreShaved x c.args.place (replicate i f ++ f ∷ back) w old mid) (none_is_left f back v none ∙ ap Some (sym c.zero.ensures)) whole)

pub loop-at-preserved : goal.loop-at-preserved
loop-at-preserved c =
    let x = c.args.row.now in
    let a = c.args.place in
    let w = c.args.weight in
    let f = c.args.run.weight in
    let i = c.loop-at.at in
    let old = entries_of c.args.into.now.items in
    let mid = entries_of c.loop-at.into.items in
    let new = entries_of c.push_piece.new.into.items in
    let v = c.in-Some.left in
    let above = sym c.is_above_zero.ensures.value ∙ c.if-not-is_above_zero.false in
    let before = subst (AreShaved x a (replicate i f) w old mid) c.in-Some.is c.loop-at.invariant in
    let one = shaved_one x (a + i) f v c.min.result mid new c.is_above_zero.ensures.in_range c.in_ok-push_piece.ensures.in_range above (c.min.ensures ∙ ratio_min-is f v) c.in_ok-push_piece.ensures.ok in
    let more = shaved_more x a (replicate i f) w old mid v before (a + i) (f ∷ []) new (checked (left_of v f)) (ap (λ n. a + n) (sym (length-replicate i f))) one in
    subst (λ fs. AreShaved x a fs w old new c.left_of-rest.result) (replicate_more i f) (subst (AreShaved x a (replicate i f ++ f ∷ []) w old new) (sym c.left_of-rest.ensures) more)

pub returns-clause-ok : goal.returns-clause-ok
returns-clause-ok c =
    let end : c.loop-at.at ≡ c.args.run.times = omega arith in
    subst (λ n. AreShaved c.args.row.now c.args.place (replicate n c.args.run.weight) c.args.weight (entries_of c.args.into.now.items) (entries_of c.loop-at.into.items) c.loop-at.rest) end c.loop-at.invariant
