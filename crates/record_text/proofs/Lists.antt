-- Lists that are read one member after the other.
use Rattle.std.specs.Prelude.{◌≡◌, ℕ, zero, suc, ◌+◌, Bool, true, List, [], ◌∷◌, ◌++◌, map, slice_get, Some}
use Rattle.std.specs.List.{list_all}
use Rattle.std.proofs.Common.{ap, ap₂, ◌∙◌, subst, sym, add-one, take, drop}
use Rattle.std.proofs.Math.Seq.{drop-cons, take-suc}
use Rattle.std.proofs.lemmas.Bool.{and_parts}
use Rattle.std.proofs.lemmas.List.{map-append}
use Rattle.std.proofs.lemmas.Option.{get_or_from_slice_get, slice_get_within}

-- the member at a place ends the front before the next place
pub front_more : {X : Type 0} (xs : List X) (i : ℕ) (x : X) → slice_get xs i ≡ Some x → take (i + 1) xs ≡ take i xs ++ x ∷ []
front_more xs i x at =
    ap (λ n. take n xs) (add-one i) ∙ take-suc xs i x (slice_get_within xs i x at) ∙ ap (λ y. take i xs ++ y ∷ []) (get_or_from_slice_get xs i x x at)

pub map-front_more : {X Y : Type 0} (f : X → Y) (xs : List X) (i : ℕ) (x : X) → slice_get xs i ≡ Some x → map f (take (i + 1) xs) ≡ map f (take i xs) ++ f x ∷ []
map-front_more f xs i x at = ap (map f) (front_more xs i x at) ∙ map-append f (take i xs) (x ∷ [])

-- and begins the rest
pub rest_from : {X : Type 0} (xs : List X) (i : ℕ) (x : X) → slice_get xs i ≡ Some x → drop i xs ≡ x ∷ drop (i + 1) xs
rest_from xs i x at =
    drop-cons xs i x (slice_get_within xs i x at) ∙ ap₂ (λ y n. y ∷ drop n xs) (get_or_from_slice_get xs i x x at) (sym (add-one i))

-- a test that all members pass is passed by the member at a place
pub passes_at : {X : Type 0} (p : X → Bool) (xs : List X) (i : ℕ) (x : X) → slice_get xs i ≡ Some x → list_all p xs ≡ true → p x ≡ true
passes_at p [] i x at all = cc
passes_at p (y ∷ xs) zero x at all = let same : y ≡ x = cc in subst (λ z. p z ≡ true) same ((and_parts (p y) (list_all p xs) all).0)
passes_at p (y ∷ xs) (suc i) x at all = passes_at p xs i x at ((and_parts (p y) (list_all p xs) all).1)
