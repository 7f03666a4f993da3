-- Sums over lists: `total f xs` is the sum of f x over the members x of xs.
use Rattle.std.specs.Prelude.{◌≡◌, ◌&&◌, ◌||◌, Bool, true, false, cond, filter, List, [], ◌∷◌, ◌++◌, map, refl}
use Rattle.std.specs.List.{AllByRecursion, list_any}
use Rattle.std.proofs.Common.{sym, ap, ap₂, ◌∙◌, true≢false}
use Rattle.ratios.specs.Ratio.{Ratio, ratio_abs, ratio_add, ratio_mul, ratio_sub, zero_ratio}
use Rattle.ratios.specs.Sums.{ratio_sum}
use Rattle.ratios.proofs.Additive.{add_swap, ratio_abs_zero, ratio_add_assoc, ratio_add_zero, ratio_sub_itself, ratio_zero_add, sub_sums}
use Rattle.ratios.proofs.Products.{ratio_mul_add, ratio_mul_zero}
use Rattle.ratios.proofs.SumLaws.{ratio_sum-cons}
use Rattle.ratios.proofs.Field.{abs_add, add_le, add_nonneg, le_add, le_antisym, le_refl, le_same, le_then, le_trans, same_then}
use Rattle.ratios.proofs.Linear.{◌⊑◌}

abbrev pub total : {X : Type 0} → (X → Ratio) → List X → Ratio
total f xs = ratio_sum (map f xs)

-- w where the test passes, else 0
abbrev pub only : Bool → Ratio → Ratio
only b w = cond b w zero_ratio

module _ {X : Type 0} where
  pub total-cons : (f : X → Ratio) (x : X) (xs : List X) → total f (x ∷ xs) ≡ ratio_add (f x) (total f xs)
  total-cons f x xs = ratio_sum-cons (f x) (map f xs)

  pub total-same : (f g : X → Ratio) (xs : List X) → ((x : X) → f x ≡ g x) → total f xs ≡ total g xs
  total-same f g [] h = refl
  total-same f g (x ∷ xs) h = total-cons f x xs ∙ ap₂ ratio_add (h x) (total-same f g xs h) ∙ sym (total-cons g x xs)

  -- the same, where f and g agree on the members
  pub total-same_all : (f g : X → Ratio) (xs : List X) → AllByRecursion (λ x. f x ≡ g x) xs → total f xs ≡ total g xs
  total-same_all f g [] h = refl
  total-same_all f g (x ∷ xs) h = total-cons f x xs ∙ ap₂ ratio_add h.0 (total-same_all f g xs h.1) ∙ sym (total-cons g x xs)

  pub total-le_all : (f g : X → Ratio) (xs : List X) → AllByRecursion (λ x. f x ⊑ g x) xs → total f xs ⊑ total g xs
  total-le_all f g [] h = le_refl zero_ratio
  total-le_all f g (x ∷ xs) h = same_then (total-cons f x xs) (le_then (add_le h.0 (total-le_all f g xs h.1)) (sym (total-cons g x xs)))

  pub total-le : (f g : X → Ratio) (xs : List X) → ((x : X) → f x ⊑ g x) → total f xs ⊑ total g xs
  total-le f g [] h = le_refl zero_ratio
  total-le f g (x ∷ xs) h = same_then (total-cons f x xs) (le_then (add_le (h x) (total-le f g xs h)) (sym (total-cons g x xs)))

  pub total-nonneg_all : (f : X → Ratio) (xs : List X) → AllByRecursion (λ x. zero_ratio ⊑ f x) xs → zero_ratio ⊑ total f xs
  total-nonneg_all f [] h = le_refl zero_ratio
  total-nonneg_all f (x ∷ xs) h = le_then (add_nonneg h.0 (total-nonneg_all f xs h.1)) (sym (total-cons f x xs))

  pub total-nonneg : (f : X → Ratio) (xs : List X) → ((x : X) → zero_ratio ⊑ f x) → zero_ratio ⊑ total f xs
  total-nonneg f [] h = le_refl zero_ratio
  total-nonneg f (x ∷ xs) h = le_then (add_nonneg (h x) (total-nonneg f xs h)) (sym (total-cons f x xs))

  -- where no member is below 0 and they sum to 0, each is 0
  pub total-zero_each : (f : X → Ratio) (xs : List X) → ((x : X) → zero_ratio ⊑ f x) → total f xs ≡ zero_ratio → AllByRecursion (λ x. f x ≡ zero_ratio) xs
  total-zero_each f [] h e = tt
  total-zero_each f (x ∷ xs) h e =
      let first = le_antisym (le_then (le_add (f x) (total-nonneg f xs h)) (sym (total-cons f x xs) ∙ e)) (h x) in
      let rest = sym (ratio_zero_add (total f xs)) ∙ ap (λ q. ratio_add q (total f xs)) (sym first) ∙ sym (total-cons f x xs) ∙ e in
      (first, total-zero_each f xs h rest)

  pub total-zero : (f : X → Ratio) (xs : List X) → ((x : X) → f x ≡ zero_ratio) → total f xs ≡ zero_ratio
  total-zero f [] h = refl
  total-zero f (x ∷ xs) h = total-cons f x xs ∙ ap₂ ratio_add (h x) (total-zero f xs h) ∙ ratio_add_zero zero_ratio

  pub total-zero_all : (f : X → Ratio) (xs : List X) → AllByRecursion (λ x. f x ≡ zero_ratio) xs → total f xs ≡ zero_ratio
  total-zero_all f [] h = refl
  total-zero_all f (x ∷ xs) h = total-cons f x xs ∙ ap₂ ratio_add h.0 (total-zero_all f xs h.1) ∙ ratio_add_zero zero_ratio

  pub total-add : (f g : X → Ratio) (xs : List X) → total (λ x. ratio_add (f x) (g x)) xs ≡ ratio_add (total f xs) (total g xs)
  total-add f g [] = sym (ratio_add_zero zero_ratio)
  total-add f g (x ∷ xs) =
      total-cons (λ x. ratio_add (f x) (g x)) x xs
      ∙ ap (ratio_add (ratio_add (f x) (g x))) (total-add f g xs)
      ∙ add_swap (f x) (g x) (total f xs) (total g xs)
      ∙ sym (ap₂ ratio_add (total-cons f x xs) (total-cons g x xs))

  pub total-sub : (f g : X → Ratio) (xs : List X) → ratio_sub (total f xs) (total g xs) ≡ total (λ x. ratio_sub (f x) (g x)) xs
  total-sub f g [] = ratio_sub_itself zero_ratio
  total-sub f g (x ∷ xs) =
      ap₂ ratio_sub (total-cons f x xs) (total-cons g x xs)
      ∙ sub_sums (f x) (total f xs) (g x) (total g xs)
      ∙ ap (ratio_add (ratio_sub (f x) (g x))) (total-sub f g xs)
      ∙ sym (total-cons (λ x. ratio_sub (f x) (g x)) x xs)

  pub total-abs : (f : X → Ratio) (xs : List X) → ratio_abs (total f xs) ⊑ total (λ x. ratio_abs (f x)) xs
  total-abs f [] = le_same ratio_abs_zero
  total-abs f (x ∷ xs) =
      same_then (ap ratio_abs (total-cons f x xs))
      (le_trans (abs_add (f x) (total f xs)) (le_then (add_le (le_refl (ratio_abs (f x))) (total-abs f xs)) (sym (total-cons (λ x. ratio_abs (f x)) x xs))))

  -- two sums are no further apart than their members, all together
  pub total-apart : (f g : X → Ratio) (xs : List X) → ratio_abs (ratio_sub (total f xs) (total g xs)) ⊑ total (λ x. ratio_abs (ratio_sub (f x) (g x))) xs
  total-apart f g xs = same_then (ap ratio_abs (total-sub f g xs)) (total-abs (λ x. ratio_sub (f x) (g x)) xs)

  pub total-mul : (c : Ratio) (f : X → Ratio) (xs : List X) → total (λ x. ratio_mul c (f x)) xs ≡ ratio_mul c (total f xs)
  total-mul c f [] = sym (ratio_mul_zero c)
  total-mul c f (x ∷ xs) =
      total-cons (λ x. ratio_mul c (f x)) x xs ∙ ap (ratio_add (ratio_mul c (f x))) (total-mul c f xs) ∙ sym (ratio_mul_add c (f x) (total f xs)) ∙ ap (ratio_mul c) (sym (total-cons f x xs))

  pub total-append : (f : X → Ratio) (xs ys : List X) → total f (xs ++ ys) ≡ ratio_add (total f xs) (total f ys)
  total-append f [] ys = sym (ratio_zero_add (total f ys))
  total-append f (x ∷ xs) ys =
      total-cons f x (xs ++ ys) ∙ ap (ratio_add (f x)) (total-append f xs ys) ∙ sym (ratio_add_assoc (f x) (total f xs) (total f ys)) ∙ ap (λ q. ratio_add q (total f ys)) (sym (total-cons f x xs))

  -- what a test keeps counts, and the rest counts as 0
  pub total-filter : (test : X → Bool) (f : X → Ratio) (xs : List X) → total f (filter test xs) ≡ total (λ x. only (test x) (f x)) xs
  total-filter test f [] = refl
  total-filter test f (x ∷ xs) =
      elim (test x) as (λ b. total f (cond b (x ∷ filter test xs) (filter test xs)) ≡ ratio_add (only b (f x)) (total (λ x. only (test x) (f x)) xs)) [
        | true ↦ total-cons f x (filter test xs) ∙ ap (ratio_add (f x)) (total-filter test f xs)
        | false ↦ total-filter test f xs ∙ sym (ratio_zero_add (total (λ x. only (test x) (f x)) xs))
      ]
      ∙ sym (total-cons (λ x. only (test x) (f x)) x xs)

pub total-map : {X Y : Type 0} (f : Y → Ratio) (g : X → Y) (xs : List X) → total f (map g xs) ≡ total (λ x. f (g x)) xs
total-map f g [] = refl
total-map f g (x ∷ xs) = total-cons f (g x) (map g xs) ∙ ap (ratio_add (f (g x))) (total-map f g xs) ∙ sym (total-cons (λ x. f (g x)) x xs)

-- two sums may change places
pub total-swap : {X Y : Type 0} (f : X → Y → Ratio) (xs : List X) (ys : List Y) → total (λ x. total (f x) ys) xs ≡ total (λ y. total (λ x. f x y) xs) ys
total-swap f [] ys = sym (total-zero (λ y. zero_ratio) ys (λ y. refl))
total-swap f (x ∷ xs) ys =
    total-cons (λ x. total (f x) ys) x xs
    ∙ ap (ratio_add (total (f x) ys)) (total-swap f xs ys)
    ∙ sym (total-add (f x) (λ y. total (λ x. f x y) xs) ys)
    ∙ total-same (λ y. ratio_add (f x y) (total (λ x. f x y) xs)) (λ y. total (λ x. f x y) (x ∷ xs)) ys (λ y. sym (total-cons (λ x. f x y) x xs))

-- ---- what is left out counts as 0

pub only-zero : (b : Bool) → only b zero_ratio ≡ zero_ratio
only-zero true = refl
only-zero false = refl

pub only-le : (b : Bool) {q : Ratio} → zero_ratio ⊑ q → only b q ⊑ q
only-le true {q} h = le_refl q
only-le false h = h

pub only-apart : (b : Bool) (q r : Ratio) → ratio_abs (ratio_sub (only b q) (only b r)) ≡ only b (ratio_abs (ratio_sub q r))
only-apart true q r = refl
only-apart false q r = ap ratio_abs (ratio_sub_itself zero_ratio) ∙ ratio_abs_zero

pub only-abs : (b : Bool) (q : Ratio) → ratio_abs (only b q) ≡ only b (ratio_abs q)
only-abs true q = refl
only-abs false q = ratio_abs_zero

pub only_nonneg : (b : Bool) {q : Ratio} → zero_ratio ⊑ q → zero_ratio ⊑ only b q
only_nonneg true h = h
only_nonneg false h = le_refl zero_ratio

-- where a member is flagged, the sum of q over the flagged ones is at least q
pub total-any : {X : Type 0} (flag : X → Bool) (q : Ratio) (xs : List X) → zero_ratio ⊑ q → list_any flag xs ≡ true → q ⊑ total (λ x. only (flag x) q) xs
total-any flag q [] h any = absurd (true≢false (sym any))
total-any flag q (x ∷ xs) h any =
    let rest = total (λ x. only (flag x) q) xs in
    le_then ((elim (flag x) as (λ b. (b || list_any flag xs) ≡ true → q ⊑ ratio_add (only b q) rest) [
      | true ↦ λ k. le_add q (total-nonneg (λ x. only (flag x) q) xs (λ x. only_nonneg (flag x) h))
      | false ↦ λ k. le_then (total-any flag q xs h k) (sym (ratio_zero_add rest))
    ]) any)
    (sym (total-cons (λ x. only (flag x) q) x xs))

pub total-only : {X : Type 0} (b : Bool) (f : X → Ratio) (xs : List X) → total (λ x. only b (f x)) xs ≡ only b (total f xs)
total-only true f xs = refl
total-only false f xs = total-zero (λ x. zero_ratio) xs (λ x. refl)

pub only_both : (a b : Bool) (q : Ratio) → only (a && b) q ≡ only a (only b q)
only_both true b q = refl
only_both false b q = refl
