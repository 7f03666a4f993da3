-- The source or the plan of a name, and its place.
use Rattle.std.proofs.Common.{◌≡◌, ◌<◌, ◌≤◌, ℕ, List, [], ◌∷◌, refl, ap, sym, ◌∙◌, length, Some, None, Bool, true, false, ◌+◌, cond, not, nat_lt, map, position, get_or, arith, ◌||◌, rules, suc}
use Rattle.std.specs.List.{position_or_len, list_any}
use Rattle.std.proofs.lemmas.List.Folds.{find_at}
use Rattle.std.proofs.lemmas.List.Quantifiers.{position-Some}
use Rattle.std.proofs.lemmas.Option.{slice_get-get_or, slice_get_past}
use lib.ListN.{length-map}
use Rattle.record_text.specs.Names.{name_eq}
use Rattle.request_machine.specs.Named.{first_named, index_named, is_named, place_named}

is_past : (n m : ℕ) → cond (nat_lt n m) (Some n) None ≡ None → m ≤ n
is_past n m e = grind (arith, rules)

first_is : (n m i : ℕ) → cond (nat_lt n m) (Some n) None ≡ Some i → n ≡ i
first_is n m i e = grind (arith, rules)

-- a test that passes only past the end passes on nothing
none_passes : (here : Bool) (n m : ℕ) (rest : Bool) → suc n ≤ cond (not here) (1 + m) 0 → (n ≤ m → rest ≡ false) → (here || rest) ≡ false
none_passes true n m rest past behind = absurd (omega (arith, past))
none_passes false n m rest past behind = behind (omega (arith, past))

module _ {X : Type 0} (name_of : X → List ℕ) where
  first-map : (test : List ℕ → Bool) (xs : List X) → position_or_len test (map name_of xs) ≡ position_or_len (λ x. test (name_of x)) xs
  first-map test [] = refl
  first-map test (x ∷ xs) = ap (λ n. cond (not (test (name_of x))) (1 + n) 0) (first-map test xs)

  -- a name stands among the names where what has it stands in the list
  pub position-names : (name : List ℕ) (xs : List X) → position (name_eq name) (map name_of xs) ≡ place_named name_of name xs
  position-names name xs = rw (first-map (name_eq name) xs, length-map xs name_of) refl

  -- the place of the name
  pub index-is : (name : List ℕ) (xs : List X) (i : ℕ) → place_named name_of name xs ≡ Some i → index_named name_of name xs ≡ i
  index-is name xs i e = first_is (index_named name_of name xs) (length xs) i e

  -- what stands at the place of the name
  pub named_here : (name : List ℕ) (xs : List X) (i : ℕ) (x : X)
      → place_named name_of name xs ≡ Some i → x ≡ get_or xs i x → (i < length xs) × (first_named name_of name xs ≡ Some x)
  named_here name xs i x e is =
      let found = position-Some (is_named name_of name) xs i x e in
      let at = index-is name xs i e in
      (found.0, find_at (is_named name_of name) xs ∙ rw (at) (slice_get-get_or xs i x found.0) ∙ ap Some (sym is))

  -- nothing has the name
  pub named_nowhere : (name : List ℕ) (xs : List X) → place_named name_of name xs ≡ None → first_named name_of name xs ≡ None
  named_nowhere name xs e =
      find_at (is_named name_of name) xs ∙ slice_get_past xs (index_named name_of name xs) (is_past (index_named name_of name xs) (length xs) e)

  none_among : (name : List ℕ) (xs : List X) → length xs ≤ index_named name_of name xs → list_any (name_eq name) (map name_of xs) ≡ false
  none_among name [] past = refl
  none_among name (x ∷ xs) past =
      none_passes (is_named name_of name x) (length xs) (index_named name_of name xs) (list_any (name_eq name) (map name_of xs)) past (none_among name xs)

  -- a name that nothing has isn't among the names
  pub name_is_new : (name : List ℕ) (xs : List X) → place_named name_of name xs ≡ None → list_any (name_eq name) (map name_of xs) ≡ false
  name_is_new name xs e = none_among name xs (is_past (index_named name_of name xs) (length xs) e)
