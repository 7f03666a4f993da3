-- The steps of plans.
use Rattle.std.specs.Prelude.{◌≡◌, ℕ, zero, suc, ◌+◌, ◌<◌, ◌≤◌, nat_le, true, List, [], ◌∷◌, length, slice_get, Some}
use Rattle.std.specs.List.{list_all}
use Rattle.std.proofs.Common.{subst, arith}
use Rattle.std.proofs.lemmas.Bool.{and_parts, leb-true}
use Rattle.plan_model.specs.declared.step.Step.{Step}
use Rattle.plan_model.specs.Limits.{are_steps, has_sizes, is_plan, is_size, is_step}
use Rattle.plan_model.specs.Sizes.{max_steps}
use Rattle.record_text.proofs.Lists.{passes_at}

step_from : (from : ℕ) (ss : List Step) (i : ℕ) (s : Step) → slice_get ss i ≡ Some s → are_steps from ss ≡ true → is_step (from + i) s ≡ true
step_from from [] i s at steps = cc
step_from from (t ∷ ss) zero s at steps =
    let same : t ≡ s = cc in
    let here : from ≡ from + 0 = omega arith in
    subst (λ u. is_step (from + 0) u ≡ true) same (subst (λ n. is_step n t ≡ true) here ((and_parts _ (are_steps (from + 1) ss) steps).0))
step_from from (t ∷ ss) (suc i) s at steps =
    let next : (from + 1) + i ≡ from + suc i = omega arith in
    subst (λ n. is_step n s ≡ true) next (step_from (from + 1) ss i s at ((and_parts _ (are_steps (from + 1) ss) steps).1))

-- each step of a plan is one at its place
pub step_of_plan : (p : List Step) (i : ℕ) (s : Step) → slice_get p i ≡ Some s → is_plan p ≡ true → is_step i s ≡ true
step_of_plan p i s at plan =
    let here : 0 + i ≡ i = omega arith in
    subst (λ n. is_step n s ≡ true) here (step_from 0 p i s at ((and_parts _ (are_steps 0 p) plan).1))

-- a plan has 1 to 64 steps
pub count_of_plan : (p : List Step) → is_plan p ≡ true → (0 < length p) × (length p ≤ max_steps)
count_of_plan p plan =
    let sizes = (and_parts _ (are_steps 0 p) plan).0 in
    let count = and_parts (nat_le 1 (length p)) (nat_le (length p) max_steps) (and_parts (is_size max_steps (length p)) (list_all has_sizes p) sizes).0 in
    (leb-true 1 (length p) count.0, leb-true (length p) max_steps count.1)

pub some_steps : (p : List Step) → is_plan p ≡ true → 0 < length p
some_steps p plan = (count_of_plan p plan).0

-- each step of a plan has lists as long as they may be
pub sizes_of_plan : (p : List Step) (i : ℕ) (s : Step) → slice_get p i ≡ Some s → is_plan p ≡ true → has_sizes s ≡ true
sizes_of_plan p i s at plan =
    let sizes = (and_parts _ (are_steps 0 p) plan).0 in
    passes_at has_sizes p i s at ((and_parts (is_size max_steps (length p)) (list_all has_sizes p) sizes).1)
