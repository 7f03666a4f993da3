-- The first place of a list at which a test passes, and the source of a name.
use Rattle.std.specs.Prelude.{◌≡◌, ℕ, ◌+◌, ◌<◌, ◌≤◌, nat_lt, Bool, true, false, ◌||◌, cond, is_some, List, [], ◌∷◌, length, slice_get, Option, Some, None, option_and_then}
use Rattle.std.specs.List.{list_any, position, position_from, position_or_len}
use Rattle.std.proofs.Common.{refl, ap, ◌∙◌, arith, get_or}
use Rattle.std.proofs.lemmas.Bool.{le-ltb, lt-ltb}
use Rattle.std.proofs.lemmas.Iterator.Adapters.{position_from-zero}
use Rattle.std.proofs.lemmas.List.Quantifiers.{position-Some}
use Rattle.std.proofs.lemmas.List.Sums.{position_or_len_is}
use Rattle.std.proofs.lemmas.Option.{get_or_from_slice_get, slice_get-get_or, slice_get_within}
use Rattle.record_text.specs.Names.{name_eq}
use Rattle.plan_model.specs.declared.source_types.SourceType.{SourceType}
use Rattle.plan_model.specs.Sources.{has_name, place_of}
use Rattle.plan_model.specs.Types.{source_named}

module _ {X : Type 0} (p : X → Bool) where
  place_is : (xs : List X) (i : ℕ) → position_or_len p xs ≡ i → position p xs ≡ cond (nat_lt i (length xs)) (Some i) None
  place_is xs i e = ap (λ n. cond (nat_lt n (length xs)) (Some n) None) e

  -- the first member that passes
  pub position_found : (xs : List X) (i : ℕ) (x : X) → slice_get xs i ≡ Some x → p x ≡ true → ((k : ℕ) → k < i → p (get_or xs k x) ≡ false) → position p xs ≡ Some i
  position_found xs i x at passes before =
      let inside = slice_get_within xs i x at in
      let here = ap p (get_or_from_slice_get xs i x x at) ∙ passes in
      place_is xs i (position_or_len_is p xs i x (omega (arith, inside)) before (λ _. here)) ∙ ap (λ b. cond b (Some i) None) (lt-ltb i (length xs) inside)

  -- none passes
  pub position_none : (xs : List X) (i : ℕ) → length xs ≤ i → ((k : ℕ) (x : X) → k < i → p (get_or xs k x) ≡ false) → position p xs ≡ None
  position_none [] i past none = refl
  position_none (x ∷ xs) i past none =
      let all = x ∷ xs in
      let end = position_or_len_is p all (length all) x (omega arith) (λ k below. none k x (omega arith)) (λ out. absurd (omega arith)) in
      place_is all (length all) end ∙ ap (λ b. cond b (Some (length all)) None) (le-ltb (length all) (length all) (omega arith))

  is_some-either : (b any : Bool) (i : ℕ) (o : Option ℕ) → is_some o ≡ any → is_some (cond b (Some i) o) ≡ (b || any)
  is_some-either true any i o h = refl
  is_some-either false any i o h = h

  is_some-position_from : (i : ℕ) (xs : List X) → is_some (position_from p i xs) ≡ list_any p xs
  is_some-position_from i [] = refl
  is_some-position_from i (x ∷ xs) = is_some-either (p x) (list_any p xs) i (position_from p (i + 1) xs) (is_some-position_from (i + 1) xs)

  pub is_some-position : (xs : List X) → is_some (position p xs) ≡ list_any p xs
  is_some-position xs = ap is_some (position_from-zero p xs) ∙ is_some-position_from 0 xs

  -- there is a member at the first place
  is_some-member : (xs : List X) (place : Option ℕ) → position p xs ≡ place → is_some (option_and_then (slice_get xs) place) ≡ is_some place
  is_some-member xs None is = refl
  is_some-member [] (Some i) is = cc
  is_some-member (x ∷ xs) (Some i) is = ap is_some (slice_get-get_or (x ∷ xs) i x ((position-Some p (x ∷ xs) i x is).0))

-- there is a source of a name just where one has it
pub is_some-source_named : (name : List ℕ) (types : List SourceType) → is_some (source_named name types) ≡ has_name types name
is_some-source_named name types =
    let has = λ (t : SourceType). name_eq name t.name in
    is_some-member has types (place_of name types) refl ∙ is_some-position has types
