-- Steps one after the other.
use Rattle.std.specs.Prelude.{◌≡◌, ℕ, ◌+◌, true, List, [], ◌∷◌, ◌++◌, length}
use Rattle.std.proofs.Common.{refl, subst, arith}
use Rattle.std.proofs.lemmas.Bool.{and_from, and_parts}
use Rattle.plan_model.specs.declared.step.Step.{Step}
use Rattle.plan_model.specs.Limits.{are_steps, is_step}

-- a step more
pub are_steps_more : (from : ℕ) (ss : List Step) (s : Step) → are_steps from ss ≡ true → is_step (from + length ss) s ≡ true → are_steps from (ss ++ s ∷ []) ≡ true
are_steps_more from [] s steps last =
    let here : from + 0 ≡ from = omega arith in
    and_from _ _ (subst (λ n. is_step n s ≡ true) here last) refl
are_steps_more from (t ∷ ss) s steps last =
    let parts = and_parts (is_step from t) (are_steps (from + 1) ss) steps in
    let next : from + length (t ∷ ss) ≡ (from + 1) + length ss = omega arith in
    and_from _ _ parts.0 (are_steps_more (from + 1) ss s parts.1 (subst (λ n. is_step n s ≡ true) next last))
