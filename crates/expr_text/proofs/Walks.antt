-- Walks that come to their end.
use Rattle.std.proofs.Common.{◌≡◌, ℕ, ◌+◌, ◌<◌, nat_le, nat_lt, Bool, true, false, if◌then◌else◌, List, [], ◌∷◌, length, Option, Some, None, option_and_then, Result, Ok, Err, refl, arith, ltb-true, le-leb}
use Rattle.std.proofs.lemmas.Bool.{and_from}
use Rattle.std.proofs.lemmas.Option.{cond_some, option_and_then_some}
use Rattle.serde_json.specs.Data.{Data}
use Rattle.json_fields.proofs.Walks.{both_steps}
use Rattle.json_fields.specs.Fields.{list_of}
use Rattle.json_fields.specs.Walk.{each}
use Rattle.plan_model.specs.Limits.{is_size}
use Rattle.expr_text.specs.declared.fault.Place.{Place}
use Rattle.expr_text.specs.Fields.{or_shape, list_in}

-- each member gives one value
pub length-each : {D A E : Type 0} (f : ℕ → D → Result A E) (at : ℕ) (ds : List D) (xs : List A) → each f at ds ≡ Ok xs → length xs ≡ length ds
length-each f at [] xs e = let none : [] ≡ xs = cc in rw (← none) refl
length-each f at (d ∷ ds) xs e =
    let first = both_steps (f at d) _ xs e in
    let rest = both_steps (each f (at + 1) ds) _ xs first.2 in
    let is : first.0 ∷ rest.0 ≡ xs = (let last = rest.2 in cc) in
    rw (← is, length-each f (at + 1) ds rest.0 rest.1) refl

-- what was asked for was there
pub was_there : {A : Type 0} (p : Place) (found : Option A) (x : A) → or_shape p found ≡ Ok x → found ≡ Some x
was_there p None x e = cc
was_there p (Some y) x e = let same : y ≡ x = cc in rw same refl

-- what wasn't refused passed the test, and is what was tested
pub cond_ok : {A E : Type 0} (b : Bool) (x y : A) (fault : E) → (if b then Ok x else Err fault) ≡ Ok y → (b ≡ true) × (x ≡ y)
cond_ok true x y fault e = (refl, cc)
cond_ok false x y fault e = cc

-- ---- how many members a list has

-- a list that isn't empty has a member
pub some-list_in : (p : Place) (found : Option Data) (ds : List Data) → list_in p found ≡ Ok ds → 0 < length ds
some-list_in p found ds e =
    option_and_then_some (λ (xs : List Data). if nat_lt 0 (length xs) then Some xs else None) (option_and_then list_of found) ds (was_there p _ ds e)
    (λ xs is some.
    let tested = cond_some (nat_lt 0 (length xs)) xs ds some in
    rw (← tested.1) (ltb-true 0 (length xs) tested.0))

-- as many values as members of a list that isn't empty and was found short enough
pub is_size-each : {A : Type 0} (most : ℕ) (ds : List Data) (xs : List A) → length xs ≡ length ds → 0 < length ds → nat_le (length ds) most ≡ true →
    is_size most (length xs) ≡ true
is_size-each most ds xs same some few = rw same (and_from (nat_le 1 (length ds)) (nat_le (length ds) most) (le-leb 1 (length ds) (omega arith)) few)
