use Rattle.std.proofs.Common.{◌≡◌, ◌+◌, true, [], ◌∷◌, arith, length, refl, subst, sym, ◌∙◌}
use Rattle.std.specs.List.{list_all}
use Rattle.std.proofs.lemmas.Bool.{and_from}
use Rattle.std.proofs.lemmas.List.Folds.{list_all-append}
use Rattle.plan_model.specs.Limits.{are_steps, has_sizes, is_step}
use Rattle.checker_tests.proofs.Steps.{are_steps_more}
use Rattle.checker_tests.proofs.checker.steps.add.Goals as goal

pub returns-clause-steps : goal.returns-clause-steps
returns-clause-steps c =
    let ss = c.args.steps.now.items in
    let here : length ss ≡ 0 + length ss = omega arith in
    subst (λ ts. are_steps 0 ts ≡ true) (sym c.in_ok-push.ensures.items)
    (are_steps_more 0 ss c.args.step c.requires.steps (subst (λ n. is_step n c.args.step ≡ true) here c.requires.step))

pub returns-clause-sizes : goal.returns-clause-sizes
returns-clause-sizes c =
    let ss = c.args.steps.now.items in
    subst (λ ts. list_all has_sizes ts ≡ true) (sym c.in_ok-push.ensures.items)
    (list_all-append has_sizes ss (c.args.step ∷ []) ∙ and_from (list_all has_sizes ss) _ c.requires.sizes (and_from (has_sizes c.args.step) true c.requires.size refl))
