-- In an accepted plan every step is typed.
use Rattle.std.specs.Prelude.{ℕ, Bool, true, false, if◌then◌else◌, nat_eq, List, [], ◌∷◌, ◌++◌, length}
use Rattle.record_text.specs.declared.kinds.Kind.{Kind}
use Rattle.datasets.specs.Dataset.{Dataset, empty}
use Rattle.plan_model.specs.declared.step.Step.{Step}
use Rattle.plan_model.specs.declared.source_types.SourceType.{SourceType}
use Rattle.plan_model.specs.Evaluation.{Family, eval_at, eval_step, evals}
use Rattle.plan_model.specs.Laws.{AcceptedIsTyped}
use Rattle.plan_model.specs.Types.{Keeps, columns, columns_at, columns_step, may_be_negative, sign_step, signs}
use Rattle.plan_model.proofs.Accepted.{PassesAfter, holds_accepted}
use Rattle.plan_model.proofs.StepByStep.{slice_index_or-step_by_step}
use Rattle.plan_model.proofs.TypedSteps.{IsTyped, IsTyped-empty, IsTyped-eval_step}

module _ (types : List SourceType) (F : Family) (keeps : Keeps types F) where
  -- the step i of a plan is typed
  abbrev pub TypedAt : List Step → ℕ → Type 0
  TypedAt p i = IsTyped (columns_at (columns p types) i) (may_be_negative p types i) (eval_at p types F i)

  IsTyped-either : (b : Bool) (c d : List Kind) (f g : Bool) (A B : Dataset) → IsTyped c f A → IsTyped d g B → IsTyped (if b then c else d) (if b then f else g) (if b then A else B)
  IsTyped-either true c d f g A B h k = h
  IsTyped-either false c d f g A B h k = k

  -- a step more, that passes its checks
  pub TypedAt-snoc : (p : List Step) (s : Step) → PassesAfter types p s → ((i : ℕ) → TypedAt p i) → (i : ℕ) → TypedAt (p ++ s ∷ []) i
  TypedAt-snoc p s passes h i =
      let new = IsTyped-eval_step (columns p types) (signs p types) (evals p types F) h types F s keeps passes.right_kinds passes.not_negative in
      rw (slice_index_or-step_by_step (columns_step types) p s [] i, slice_index_or-step_by_step (sign_step types) p s true i, slice_index_or-step_by_step (eval_step types F) p s empty i)
      (IsTyped-either (nat_eq i (length p)) _ _ _ _ _ _ new (h i))

pub accepted_is_typed : AcceptedIsTyped
accepted_is_typed p types F i accepts keeps =
    let typed = holds_accepted types (λ q. (i : ℕ) → TypedAt types F keeps q i) (TypedAt-snoc types F keeps) p accepts (λ i. IsTyped-empty [] true) i in
    record { rows = typed.rows; sign = typed.sign }
