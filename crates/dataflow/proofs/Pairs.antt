-- Operators before and after, one place at a time.
use Rattle.std.proofs.Common.{◌≡◌, ◌≢◌, inl, inr, ℕ, zero, suc, ◌+◌, ◌<◌, ◌≤◌, List, [], ◌∷◌, length, get_or, map, refl, ap, sym, ◌∙◌, subst, arith, length-set}
use Rattle.std.specs.Prelude.{Some, None, slice_get, slice_set}
use Rattle.std.proofs.lemmas.Bool.Decides.{eqb_tells, leb_tells}
use Rattle.std.proofs.lemmas.List.{length-map}
use Rattle.std.proofs.lemmas.Option.{slice_get-get_or, slice_get_within}
use Rattle.weighted_set.specs.Standing.{Standing}
use Rattle.dataflow.specs.Standing.{EachPair, KeepsInputs, meanings}

-- ---- lists with one element set

pub slice_get-set_same : {A : Type 0} (xs : List A) (i : ℕ) (a : A) → i < length xs → slice_get (slice_set xs i a) i ≡ Some a
slice_get-set_same [] i a h = absurd (omega arith)
slice_get-set_same (x ∷ xs) zero a h = refl
slice_get-set_same (x ∷ xs) (suc i) a h = slice_get-set_same xs i a (omega arith)

pub slice_get-set_other : {A : Type 0} (xs : List A) (i j : ℕ) (a : A) → j ≢ i → slice_get (slice_set xs i a) j ≡ slice_get xs j
slice_get-set_other [] i j a h = refl
slice_get-set_other (x ∷ xs) zero zero a h = absurd (h refl)
slice_get-set_other (x ∷ xs) zero (suc j) a h = refl
slice_get-set_other (x ∷ xs) (suc i) zero a h = refl
slice_get-set_other (x ∷ xs) (suc i) (suc j) a h = slice_get-set_other xs i j a (λ e. h (ap (λ k. suc k) e))

same_some : {A : Type 0} (x y : A) → Some x ≡ Some y → x ≡ y
same_some x y e = ap (λ o. elim o [ None ↦ x | Some z ↦ z ]) e

-- a fact of each element of a list with its place holds once one is set
pub each-set : {A : Type 0} (P : ℕ → A → Type 0) (xs : List A) (i : ℕ) (a : A) → i < length xs → P i a
    → ((j : ℕ) (x : A) → j ≢ i → slice_get xs j ≡ Some x → P j x) → (j : ℕ) (x : A) → slice_get (slice_set xs i a) j ≡ Some x → P j x
each-set P xs i a h here others j x e =
    elim (eqb_tells j i) [
      | inl s ↦ subst (λ k. P k x) (sym s.1) (subst (P i) (same_some a x (sym (slice_get-set_same xs i a h) ∙ ap (slice_get (slice_set xs i a)) (sym s.1) ∙ e)) here)
      | inr s ↦ others j x s.1 (sym (slice_get-set_other xs i j a s.1) ∙ e)
    ]

-- ---- a pass over all elements

-- elements before i became others as P says, and those from i on are as they were
pub record Passed {A : Type 0} (P : ℕ → A → A → Type 0) (old new : List A) (i : ℕ) : Type 0 where
  pub size : length new ≡ length old
  pub done : (j : ℕ) (x y : A) → j < i → slice_get old j ≡ Some x → slice_get new j ≡ Some y → P j x y
  pub ahead : (j : ℕ) → i ≤ j → slice_get new j ≡ slice_get old j

pub Passed-more : {A : Type 0} (P : ℕ → A → A → Type 0) (old new : List A) (i : ℕ) (x y : A) → i < length new → slice_get old i ≡ Some x → P i x y
    → Passed P old new i → Passed P old (slice_set new i y) (i + 1)
Passed-more P old new i x y h here p so_far = record {
  size = length-set new i y ∙ so_far.size;
  done = λ j a b less e f.
      each-set (λ k z. k < i + 1 → (w : _) → slice_get old k ≡ Some w → P k w z) new i y h (λ _ w q. subst (λ v. P i v y) (same_some x w (sym here ∙ q)) p)
      (λ k z ne q l w r. so_far.done k w z (omega arith) r q) j b f less a e;
  ahead = λ j less. slice_get-set_other new i j y (omega arith) ∙ so_far.ahead j (omega arith);
}

-- an element that isn't passed yet
pub Passed-next : {A : Type 0} {P : ℕ → A → A → Type 0} (old new : List A) (i : ℕ) (d : A) → Passed P old new i → i < length new → slice_get old i ≡ Some (get_or new i d)
Passed-next old new i d so_far h = sym (so_far.ahead i (omega arith)) ∙ slice_get-get_or new i d h

-- a fact that holds of each element and itself holds once some are passed
pub pairs_of : {A : Type 0} (P : A → A → Type 0) (old new : List A) (i : ℕ) → ((x : A) → P x x) → Passed (λ _ x y. P x y) old new i → EachPair P old new
pairs_of P old new i same so_far j x y e f =
    elim (leb_tells i j) [
      | inl s ↦ subst (P x) (same_some x y (sym e ∙ sym (so_far.ahead j s.1) ∙ f)) (same x)
      | inr s ↦ so_far.done j x y s.1 e f
    ]

-- what the passed pairs say, once all are passed
pub pairs_at : {A : Type 0} {P : ℕ → A → A → Type 0} (old new : List A) (i : ℕ) → length new ≤ i → Passed P old new i → (j : ℕ) (x y : A) → slice_get old j ≡ Some x → slice_get new j ≡ Some y → P j x y
pairs_at old new i all so_far j x y e f = let within = slice_get_within new j y f in so_far.done j x y (omega arith) e f

-- of each element that there is, what the passed pairs say of it
pub of_each_new : {A : Type 0} {P : ℕ → A → A → Type 0} (Q : ℕ → A → Type 0) (old new : List A) (i : ℕ) → length new ≤ i → ((j : ℕ) (x y : A) → P j x y → Q j y) → Passed P old new i → (j : ℕ) (y : A) → slice_get new j ≡ Some y → Q j y
of_each_new Q old new i all means so_far j y f =
    let within = slice_get_within new j y f in
    let size = so_far.size in
    let x = get_or old j y in
    means j x y (so_far.done j x y (omega arith) (slice_get-get_or old j y (omega arith)) f)

-- what is alike in each pair is alike in the lists
pub map_of_pairs : {A B : Type 0} (f : A → B) (old new : List A) → length new ≡ length old → EachPair (λ x y. f y ≡ f x) old new → map f new ≡ map f old
map_of_pairs f [] [] size same = refl
map_of_pairs f [] (y ∷ ys) size same = absurd (omega arith)
map_of_pairs f (x ∷ xs) [] size same = absurd (omega arith)
map_of_pairs f (x ∷ xs) (y ∷ ys) size same =
    let rest : map f ys ≡ map f xs = map_of_pairs f xs ys (omega arith) (λ i a b e g. same (suc i) a b e g) in
    let here : f y ≡ f x = same 0 x y refl refl in
    (λ i. here i ∷ rest i)

-- ---- operators

-- m stands for what n stands for, and means what n means
abbrev pub IsKept : {N : Type 0} → (N → Standing) → N → N → Type 0
IsKept of n m = KeepsInputs of n m × ((of m).meaning ≡ (of n).meaning)

pub same_meanings : {N : Type 0} (of : N → Standing) (old new : List N) → length new ≡ length old → EachPair (λ n m. (of m).meaning ≡ (of n).meaning) old new → meanings of new ≡ meanings of old
same_meanings of old new size same = map_of_pairs (λ n. (of n).meaning) old new size same

pub all_kept : {N : Type 0} (of : N → Standing) (old new : List N) (i : ℕ) → Passed (λ _ n m. IsKept of n m) old new i → EachPair (KeepsInputs of) old new × (meanings of new ≡ meanings of old)
all_kept of old new i so_far =
    let each : EachPair (IsKept of) old new = pairs_of (IsKept of) old new i (λ n. ((λ A B s. s), refl)) so_far in
    ((λ j n m e f. (each j n m e f).0), same_meanings of old new so_far.size (λ j n m e f. (each j n m e f).1))

-- ---- one call after another

pub same_count : {N : Type 0} (of : N → Standing) (old new : List N) → meanings of new ≡ meanings of old → length new ≡ length old
same_count of old new same = sym (length-map new (λ n. (of n).meaning)) ∙ ap length same ∙ length-map old (λ n. (of n).meaning)

-- facts of pairs that follow each other
pub pairs-twice : {A : Type 0} (P Q R : A → A → Type 0) (xs ys zs : List A) → length ys ≡ length xs → ((x y z : A) → P x y → Q y z → R x z) → EachPair P xs ys → EachPair Q ys zs → EachPair R xs zs
pairs-twice P Q R xs ys zs size means p q i x z e f =
    let within = slice_get_within xs i x e in
    let y = get_or ys i x in
    let here : slice_get ys i ≡ Some y = slice_get-get_or ys i x (omega arith) in
    means x y z (p i x y e here) (q i y z here f)

pub KeepsInputs-twice : {N : Type 0} (of : N → Standing) (xs ys zs : List N) → meanings of ys ≡ meanings of xs → EachPair (KeepsInputs of) xs ys → EachPair (KeepsInputs of) ys zs → EachPair (KeepsInputs of) xs zs
KeepsInputs-twice of xs ys zs same = pairs-twice (KeepsInputs of) (KeepsInputs of) (KeepsInputs of) xs ys zs (same_count of xs ys same) (λ x y z p q A B s. q A B (p A B s))
