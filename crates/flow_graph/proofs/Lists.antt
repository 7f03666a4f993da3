-- Lists that grow, and what is made of their members.
use Rattle.std.specs.Prelude.{◌≡◌, ℕ, zero, suc, ◌+◌, ◌<◌, List, [], ◌∷◌, ◌++◌, length, map, slice_get, Some}
use Rattle.std.proofs.Common.{refl, subst, arith, get_or}
use Rattle.std.proofs.lemmas.Option.{same_Some}

-- a fact of each member, and of one more
pub mapped-each-more : {X Y : Type 0} (f : X → Y) (P : ℕ → Y → Type 0) (xs : List X) (x : X) (n : ℕ) (d : Y) → length xs ≡ n → ((k : ℕ) → k < n → P k (get_or (map f xs) k d)) → P n (f x) → (k : ℕ) → k < n + 1 → P k (get_or (map f (xs ++ x ∷ [])) k d)
mapped-each-more f P [] x zero d size h here zero below = here
mapped-each-more f P [] x zero d size h here (suc k) below = absurd (omega arith)
mapped-each-more f P [] x (suc n) d size h here k below = absurd (omega arith)
mapped-each-more f P (y ∷ xs) x zero d size h here k below = absurd (omega arith)
mapped-each-more f P (y ∷ xs) x (suc n) d size h here zero below = h 0 (omega arith)
mapped-each-more f P (y ∷ xs) x (suc n) d size h here (suc k) below = mapped-each-more f (λ j. P (suc j)) xs x n d (omega arith) (λ j under. h (suc j) (omega arith)) here k (omega arith)

pub each-more : {X : Type 0} (P : ℕ → X → Type 0) (xs : List X) (n : ℕ) (x : X) → n ≡ length xs → ((i : ℕ) (y : X) → slice_get xs i ≡ Some y → P i y) → P n x → (i : ℕ) (y : X) → slice_get (xs ++ x ∷ []) i ≡ Some y → P i y
each-more P [] n x size h here zero y at = subst (P 0) (same_Some x y at) (subst (λ k. P k x) size here)
each-more P [] n x size h here (suc i) y at = cc
each-more P (z ∷ xs) zero x size h here i y at = absurd (omega arith)
each-more P (z ∷ xs) (suc n) x size h here zero y at = h 0 y at
each-more P (z ∷ xs) (suc n) x size h here (suc i) y at = each-more (λ j. P (suc j)) xs n x (omega arith) (λ j. h (suc j)) here i y at

pub mapped-same : {X Y Z : Type 0} (f : X → Z) (g : Y → Z) (xs : List X) (ys : List Y) → length xs ≡ length ys → ((i : ℕ) (x : X) (y : Y) → slice_get xs i ≡ Some x → slice_get ys i ≡ Some y → f x ≡ g y) → map f xs ≡ map g ys
mapped-same f g [] [] size h = refl
mapped-same f g [] (y ∷ ys) size h = absurd (omega arith)
mapped-same f g (x ∷ xs) [] size h = absurd (omega arith)
mapped-same f g (x ∷ xs) (y ∷ ys) size h = λ i. h 0 x y refl refl i ∷ mapped-same f g xs ys (omega arith) (λ j. h (suc j)) i
