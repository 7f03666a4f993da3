-- What requests come to, case by case.
use Rattle.std.proofs.Common.{◌≡◌, ◌<◌, ◌≤◌, ◌++◌, ℕ, List, [], ◌∷◌, refl, ap, length, Some, None, Bool, true, false, get_or, Option, arith, zero, suc, rules, nat_le, is_some}
use Rattle.std.specs.List.{remove}
use Rattle.std.proofs.lemmas.List.Quantifiers.{position-Some}
use Rattle.csv_changes.specs.Changes.{changes_of}
use Rattle.plan_model.specs.Acceptance.{plan_fault_of}
use Rattle.messages.specs.declared.refusal.Refusal.TheVariants as refusal
use Rattle.messages.specs.declared.thing.Thing.TheVariants as thing
use Rattle.messages.specs.declared.reply.Reply.TheVariants as reply
use Rattle.request_machine.specs.Declarations.{declared, dropped, misfit_on, planned, planned_at}
use Rattle.request_machine.specs.Updates.{updated, updated_by}
use Rattle.request_machine.specs.Named.{first_named, is_named, place_named, plan_name, source_name}
use Rattle.request_machine.specs.State.{PlanState, SourceState, State, types_of}
use Rattle.request_machine.proofs.Named.{index-is, named_here, named_nowhere}

-- ---- names

pub get_or-default : {X : Type 0} (xs : List X) (i : ℕ) (d e : X) → i < length xs → get_or xs i d ≡ get_or xs i e
get_or-default [] i d e lt = absurd (omega (arith, lt))
get_or-default (x ∷ xs) zero d e lt = refl
get_or-default (x ∷ xs) (suc i) d e lt = get_or-default xs i d e (omega (arith, lt))

module _ {X : Type 0} (name_of : X → List ℕ) where
  -- something has the name
  pub named_somewhere : (name : List ℕ) (xs : List X) (i : ℕ) → place_named name_of name xs ≡ Some i → (x : X) × (first_named name_of name xs ≡ Some x)
  named_somewhere name [] i e = absurd (grind rules)
  named_somewhere name (d ∷ xs) i e =
      let found = position-Some (is_named name_of name) (d ∷ xs) i d e in
      let x = get_or (d ∷ xs) i d in
      (x, (named_here name_of name (d ∷ xs) i x e (get_or-default (d ∷ xs) i d x found.0)).1)

le-leb : (n m : ℕ) → n ≤ m → nat_le n m ≡ true
le-leb n m le = grind (arith, rules)

gt-leb : (n m : ℕ) → m < n → nat_le n m ≡ false
gt-leb n m lt = grind (arith, rules)

-- a place that was or was not found
pub place_is : (o : Option ℕ) → true ≡ is_some o → (i : ℕ) × (o ≡ Some i)
place_is (Some i) e = (i, refl)
place_is None e = absurd (grind rules)

pub no_place_is : (o : Option ℕ) → false ≡ is_some o → o ≡ None
no_place_is (Some i) e = absurd (grind rules)
no_place_is None e = refl

-- ---- declarations of sources

pub declared_taken : (state : State) (new : SourceState) (i : ℕ) → place_named source_name new.name state.sources ≡ Some i
    → declared state new ≡ (state, reply.Refused (refusal.Exists thing.Source new.name))
unfolding declared
declared_taken state new i e = rw ((named_somewhere source_name new.name state.sources i e).1) refl

pub declared_full : (state : State) (new : SourceState) → place_named source_name new.name state.sources ≡ None → 16 ≤ length state.sources
    → declared state new ≡ (state, reply.Refused (refusal.Full thing.Source))
unfolding declared
declared_full state new none full = rw (named_nowhere source_name new.name state.sources none, le-leb 16 (length state.sources) full) refl

pub declared_new : (state : State) (new : SourceState) → place_named source_name new.name state.sources ≡ None → length state.sources < 16
    → declared state new ≡ (record state { sources = state.sources ++ new ∷ [] }, reply.Done)
unfolding declared
declared_new state new none few = rw (named_nowhere source_name new.name state.sources none, gt-leb 16 (length state.sources) few) refl

-- ---- declarations of plans

pub planned_taken : (state : State) (new : PlanState) (i : ℕ) → place_named plan_name new.name state.plans ≡ Some i
    → planned state new ≡ (state, reply.Refused (refusal.Exists thing.Plan new.name))
unfolding planned
planned_taken state new i e = rw ((named_somewhere plan_name new.name state.plans i e).1) refl

pub planned_full : (state : State) (new : PlanState) → place_named plan_name new.name state.plans ≡ None → 32 ≤ length state.plans
    → planned state new ≡ (state, reply.Refused (refusal.Full thing.Plan))
unfolding planned
planned_full state new none full = rw (named_nowhere plan_name new.name state.plans none, le-leb 32 (length state.plans) full) refl

pub planned_new : (state : State) (new : PlanState) → place_named plan_name new.name state.plans ≡ None → length state.plans < 32
    → planned state new ≡ planned_at (plan_fault_of new.plan (types_of state.sources)) (misfit_on state.sources new.plan) state new
unfolding planned
planned_new state new none few = rw (named_nowhere plan_name new.name state.plans none, gt-leb 32 (length state.plans) few) refl

-- ---- plans that are taken out

pub dropped_unknown : (state : State) (name : List ℕ) → place_named plan_name name state.plans ≡ None
    → dropped state name ≡ (state, reply.Refused (refusal.Unknown thing.Plan name))
unfolding dropped
dropped_unknown state name none = rw (named_nowhere plan_name name state.plans none) refl

pub dropped_known : (state : State) (name : List ℕ) (i : ℕ) → place_named plan_name name state.plans ≡ Some i
    → dropped state name ≡ (record state { plans = remove state.plans i }, reply.Done)
unfolding dropped
dropped_known state name i e =
    rw ((named_somewhere plan_name name state.plans i e).1, index-is plan_name name state.plans i e) refl

-- ---- updates

pub updated_unknown : (state : State) (name csv : List ℕ) (header : Bool) → place_named source_name name state.sources ≡ None
    → updated state name csv header ≡ (state, reply.Refused (refusal.Unknown thing.Source name))
unfolding updated
updated_unknown state name csv header none = rw (named_nowhere source_name name state.sources none) refl

pub updated_known : (state : State) (name csv : List ℕ) (header : Bool) (i : ℕ) (x : SourceState)
    → place_named source_name name state.sources ≡ Some i → x ≡ get_or state.sources i x
    → updated state name csv header ≡ updated_by state i x (changes_of csv x.kinds header)
unfolding updated
updated_known state name csv header i x here is =
    rw ((named_here source_name name state.sources i x here is).1)
    (ap (λ k. updated_by state k x (changes_of csv x.kinds header)) (index-is source_name name state.sources i here))

-- a place that was found is within the list
pub place_within : {X : Type 0} (name_of : X → List ℕ) (name : List ℕ) (xs : List X) (i : ℕ) → place_named name_of name xs ≡ Some i → i < length xs
place_within name_of name [] i e = absurd (grind rules)
place_within name_of name (d ∷ xs) i e = (position-Some (is_named name_of name) (d ∷ xs) i d e).0
