-- Lists read one member after the other.
use Rattle.std.specs.Prelude.{◌≡◌, ℕ, zero, suc, ◌+◌, ◌<◌, ◌≤◌, Bool, ◌&&◌, true, false, List, [], ◌∷◌, ◌++◌, length, slice_get, Some}
use Rattle.std.specs.List.{flat_map, list_all}
use Rattle.std.proofs.Common.{refl, sym, ap, ◌∙◌, subst, take, set}
use Rattle.std.proofs.lemmas.Bool.{and_from, and_left, and_right}
use Rattle.std.proofs.lemmas.List.{take_all, take_more_set}
use Rattle.std.proofs.lemmas.List.Folds.{list_all-append}
use Rattle.record_text.proofs.Lists.{front_more}
use Rattle.plan_model.specs.Evaluation.{last_or}

-- a list is written into another one, one member after the other
pub written_next : {X : Type 0} (xs ys : List X) (i : ℕ) (x : X) → slice_get xs i ≡ Some x → i < length ys → take i ys ≡ take i xs → take (i + 1) (set ys i x) ≡ take (i + 1) xs
written_next xs ys i x at inside front = take_more_set ys i x inside ∙ ap (λ zs. zs ++ x ∷ []) front ∙ sym (front_more xs i x at)

-- ---- tests

-- one member that fails a test settles it
pub fails_at : {X : Type 0} (p : X → Bool) (xs : List X) (i : ℕ) (x : X) → slice_get xs i ≡ Some x → p x ≡ false → list_all p xs ≡ false
fails_at p [] i x at fails = cc
fails_at p (y ∷ xs) zero x at fails = let same : x ≡ y = cc in and_left (p y) (list_all p xs) (subst (λ z. p z ≡ false) same fails)
fails_at p (y ∷ xs) (suc i) x at fails = and_right (p y) (list_all p xs) (fails_at p xs i x at fails)

-- one member more passes
pub passes_more : {X : Type 0} (p : X → Bool) (xs : List X) (i : ℕ) (x : X) → slice_get xs i ≡ Some x → p x ≡ true → list_all p (take i xs) ≡ true →
    list_all p (take (i + 1) xs) ≡ true
passes_more p xs i x at passes front =
    ap (list_all p) (front_more xs i x at) ∙ list_all-append p (take i xs) (x ∷ []) ∙ and_from _ _ front (and_from _ _ passes refl)

-- all members pass once the front is the whole list
pub passes_whole : {X : Type 0} (p : X → Bool) (xs : List X) (i : ℕ) → length xs ≤ i → list_all p (take i xs) ≡ true → list_all p xs ≡ true
passes_whole p xs i past front = sym (ap (list_all p) (take_all i xs past)) ∙ front

-- all members of all lists pass where each list's members do
pub list_all-flat_map : {X Y : Type 0} (p : Y → Bool) (f : X → List Y) (xs : List X) → list_all p (flat_map f xs) ≡ list_all (λ x. list_all p (f x)) xs
list_all-flat_map p f [] = refl
list_all-flat_map p f (x ∷ xs) = list_all-append p (f x) (flat_map f xs) ∙ ap (λ b. list_all p (f x) && b) (list_all-flat_map p f xs)

-- ---- the last member

pub last_or-snoc : {X : Type 0} (d : X) (xs : List X) (x : X) → last_or d (xs ++ x ∷ []) ≡ x
last_or-snoc d [] x = refl
last_or-snoc d (y ∷ xs) x = last_or-snoc y xs x

pub last_or_popped : {X : Type 0} (d : X) (xs ys : List X) (x : X) → xs ≡ ys ++ x ∷ [] → x ≡ last_or d xs
last_or_popped d xs ys x is = sym (ap (last_or d) is ∙ last_or-snoc d ys x)
