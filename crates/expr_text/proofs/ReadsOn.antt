-- Walks over lists that are written one by one.
use Rattle.std.proofs.Common.{◌≡◌, ℕ, ◌+◌, ◌<◌, List, [], ◌∷◌, ◌++◌, length, map, take, Some, Result, Ok, refl, subst, arith}
use Rattle.std.specs.Prelude.{slice_get}
use Rattle.std.proofs.lemmas.List.{length-map, map-append, take_more}
use Rattle.std.proofs.lemmas.Option.{slice_get_within, get_or_from_slice_get}
use Rattle.serde_json.specs.Data.{Data}
use Rattle.serde_json.specs.View.{view}
use Rattle.serde_json.specs.declared.value.Value.{Value}
use Rattle.json_fields.specs.Walk.{each}
use Rattle.json_fields.proofs.Walks.{both_steps}

-- one member, and then those that were walked
one_before : {D A E : Type 0} (f : ℕ → D → Result A E) (at : ℕ) (d : D) (ds : List D) (x : A) (xs : List A) →
    f at d ≡ Ok x → each f (at + 1) ds ≡ Ok xs → each f at (d ∷ ds) ≡ Ok (x ∷ xs)
one_before f at d ds x xs first rest = rw (first, rest) refl

-- those that were walked, and then one member
each-more : {D A E : Type 0} (f : ℕ → D → Result A E) (at : ℕ) (ds : List D) (d : D) (xs : List A) (x : A) →
    each f at ds ≡ Ok xs → f (at + length ds) d ≡ Ok x → each f at (ds ++ d ∷ []) ≡ Ok (xs ++ x ∷ [])
each-more f at [] d xs x e last =
    let none : [] ≡ xs = cc in
    let here : at + 0 ≡ at = omega arith in
    rw (← none, rw here at last) refl
each-more f at (c ∷ ds) d xs x e last =
    let first = both_steps (f at c) _ xs e in
    let rest = both_steps (each f (at + 1) ds) _ xs first.2 in
    let is : first.0 ∷ rest.0 ≡ xs = (let end = rest.2 in cc) in
    let further : at + length (c ∷ ds) ≡ at + 1 + length ds = omega arith in
    subst (λ ys. each f at (c ∷ (ds ++ d ∷ [])) ≡ Ok (ys ++ x ∷ [])) is
    (one_before f at c (ds ++ d ∷ []) first.0 (rest.0 ++ x ∷ []) first.1 (each-more f (at + 1) ds d rest.0 x rest.1 (rw further at last)))

-- the members up to a place were written, and so is the next one
pub next_reads : {A E : Type 0} (f : ℕ → Data → Result A E) (values : List Value) (xs : List A) (i : ℕ) (v : Value) (x : A) →
    slice_get xs i ≡ Some x → length values ≡ i → each f 0 (map view values) ≡ Ok (take i xs) → f i (view v) ≡ Ok x →
    each f 0 (map view (values ++ v ∷ [])) ≡ Ok (take (i + 1) xs)
next_reads f values xs i v x is len read next =
    let within : i < length xs = slice_get_within xs i x is in
    let here : 0 + length (map view values) ≡ i = (rw (length-map values view) (omega (arith, len))) in
    rw (map-append view values (v ∷ []), take_more xs i x within, get_or_from_slice_get xs i x x is)
    (each-more f 0 (map view values) (view v) (take i xs) x read (rw here next))
