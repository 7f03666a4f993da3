-- A fold whose step takes up members in any order alike is the same for every order of a list.
use Rattle.std.specs.Prelude.{ℕ, zero, suc, ◌<◌, ◌≡◌, List, [], ◌∷◌, fold, length, refl}
use Rattle.std.specs.List.{swap}
use Rattle.std.specs.List.Sorted.{IsPermutation}
use Rattle.std.proofs.Common.{arith, ap, ◌∙◌, get_or, set}
use Rattle.std.proofs.lemmas.List.Sorted.{IsPermutation-keeps}

module _ {A B : Type 0} (step : B → A → B) (alike : (b : B) (x y : A) → step (step b x) y ≡ step (step b y) x) where
  -- a member set aside is taken up first
  pub fold-out : (b : B) (x : A) (xs : List A) → fold step (step b x) xs ≡ step (fold step b xs) x
  fold-out b x [] = refl
  fold-out b x (y ∷ ys) = ap (λ c. fold step c ys) (alike b x y) ∙ fold-out (step b y) x ys

  -- the first member in the place of another
  first_swapped : (b : B) (x : A) (ys : List A) (j : ℕ) (d : A) → j < length ys → fold step b (get_or ys j d ∷ set ys j x) ≡ fold step b (x ∷ ys)
  first_swapped b x [] j d h = absurd (omega arith)
  first_swapped b x (y ∷ ys) zero d h = ap (λ c. fold step c ys) (alike b y x)
  first_swapped b x (y ∷ ys) (suc j) d h =
      ap (λ c. fold step c (set ys j x)) (alike b (get_or ys j d) y)
      ∙ first_swapped (step b y) x ys j d (omega arith)
      ∙ ap (λ c. fold step c ys) (alike b y x)

  fold-swapped : (b : B) (xs : List A) (i j : ℕ) (d : A) → i < length xs → j < length xs → fold step b (set (set xs i (get_or xs j d)) j (get_or xs i d)) ≡ fold step b xs
  fold-swapped b [] i j d h k = absurd (omega arith)
  fold-swapped b (x ∷ xs) zero zero d h k = refl
  fold-swapped b (x ∷ xs) zero (suc j) d h k = first_swapped b x xs j d (omega arith)
  fold-swapped b (x ∷ xs) (suc i) zero d h k = first_swapped b x xs i d (omega arith)
  fold-swapped b (x ∷ xs) (suc i) (suc j) d h k = fold-swapped (step b x) xs i j d (omega arith) (omega arith)

  fold-swap : (b : B) (l : List A) (i j : ℕ) → i < length l → j < length l → fold step b (swap l i j) ≡ fold step b l
  fold-swap b [] i j h k = refl
  fold-swap b (x ∷ xs) i j h k = fold-swapped b (x ∷ xs) i j x h k

  pub fold-permuted : (b : B) (xs ys : List A) → IsPermutation xs ys → fold step b ys ≡ fold step b xs
  fold-permuted b xs ys p = IsPermutation-keeps xs (λ l. fold step b l ≡ fold step b xs) refl (λ l i j h k same. fold-swap b l i j h k ∙ same) ys p
