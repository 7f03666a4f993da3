-- What acceptance says of each step of a plan.
use Rattle.std.specs.Prelude.{◌≡◌, ℕ, Bool, true, false, not, if◌then◌else◌, List, [], ◌∷◌, ◌++◌, length, Option, Some, None}
use Rattle.std.proofs.Common.{refl, sym, subst, append_assoc}
use Rattle.std.proofs.lemmas.List.{append-nil}
use Rattle.record_text.specs.declared.kinds.Kind.{Kind}
use Rattle.plan_model.specs.declared.plan.What.{What}
use Rattle.plan_model.specs.declared.step.Step.{Step}
use Rattle.plan_model.specs.declared.source_types.SourceType.{SourceType}
use Rattle.plan_model.specs.Acceptance.{Accepts, Fault, are_few, fault_after, fault_of_step, fault_or, first_fault, is_narrow, knows_source, may_group, step_has_columns, step_has_kinds}
use Rattle.plan_model.specs.Types.{columns, signs}
use Rattle.plan_model.specs.Uses.{counts_of_step}

-- the checks that a step without a fault passes
pub record Passes (types : List SourceType) (s : Step) (cs : List (List Kind)) (bs : List Bool) (counts : List ℕ) : Type 0 where
  pub known_source : knows_source types s ≡ true
  pub within_width : step_has_columns types s cs ≡ true
  pub right_kinds : step_has_kinds types s cs ≡ true
  pub narrow : is_narrow types s cs ≡ true
  pub not_negative : may_group types s bs ≡ true
  pub few_uses : are_few counts ≡ true

-- those that it passes after the steps before
abbrev pub PassesAfter : List SourceType → List Step → Step → Type 0
PassesAfter types before s = Passes types s (columns before types) (signs before types) (counts_of_step types before s)

passed : (check : Bool) (what : What) (next : Option What) → (if not check then Some what else next) ≡ None → (check ≡ true) × (next ≡ None)
passed true what next none = (refl, none)
passed false what next none = cc

pub Passes-first_fault : (types : List SourceType) (s : Step) (cs : List (List Kind)) (bs : List Bool) (counts : List ℕ) → first_fault types s cs bs counts ≡ None → Passes types s cs bs counts
Passes-first_fault types s cs bs counts none =
    let a = passed (knows_source types s) _ _ none in
    let b = passed (step_has_columns types s cs) _ _ a.1 in
    let c = passed (step_has_kinds types s cs) _ _ b.1 in
    let d = passed (is_narrow types s cs) _ _ c.1 in
    let e = passed (may_group types s bs) _ _ d.1 in
    let f = passed (are_few counts) _ _ e.1 in
    record { known_source = a.0; within_width = b.0; right_kinds = c.0; narrow = d.0; not_negative = e.0; few_uses = f.0 }

no_fault : (place : ℕ) (fault : Option What) (next : Option Fault) → fault_or place fault next ≡ None → (fault ≡ None) × (next ≡ None)
no_fault place None next none = (refl, none)
no_fault place (Some what) next none = cc

-- where no step has a fault, the first passes, and no step after it has a fault
pub Passes-fault_after : (types : List SourceType) (before : List Step) (s : Step) (ss : List Step) →
    fault_after types before (s ∷ ss) ≡ None → PassesAfter types before s × (fault_after types (before ++ s ∷ []) ss ≡ None)
Passes-fault_after types before s ss none =
    let parts = no_fault (length before) (fault_of_step types before s) (fault_after types (before ++ s ∷ []) ss) none in
    (Passes-first_fault types s _ _ _ parts.0, parts.1)

-- ---- plans, step by step

-- what one step more that passes its checks keeps holds of an accepted plan
module _ (types : List SourceType) (Q : List Step → Type 0) (more : (p : List Step) (s : Step) → PassesAfter types p s → Q p → Q (p ++ s ∷ [])) where
  holds_after : (p ss : List Step) → fault_after types p ss ≡ None → Q p → Q (p ++ ss)
  holds_after p [] none q = subst Q (sym (append-nil p)) q
  holds_after p (s ∷ ss) none q =
      let parts = Passes-fault_after types p s ss none in
      subst Q (append_assoc p (s ∷ []) ss) (holds_after (p ++ s ∷ []) ss parts.1 (more p s parts.0 q))

  pub holds_accepted : (p : List Step) → Accepts p types → Q [] → Q p
  holds_accepted p accepts start = holds_after [] p accepts start
