-- What holds of each member of a list.
use Rattle.std.specs.Prelude.{◌≡◌, Bool, true, false, cond, ◌||◌, filter, List, [], ◌∷◌, ◌++◌, map, refl}
use Rattle.std.specs.List.{AllByRecursion}
use Rattle.std.proofs.Common.{subst, sym, true≢false}
use Rattle.datasets.specs.Entries.{Row, has_row, same_row}
use Rattle.datasets.proofs.Rows.{same_row-equal}

pub AllByRecursion-everywhere : {X : Type 0} (P : X → Type 0) (xs : List X) → ((x : X) → P x) → AllByRecursion P xs
AllByRecursion-everywhere P [] h = tt
AllByRecursion-everywhere P (x ∷ xs) h = (h x, AllByRecursion-everywhere P xs h)

pub AllByRecursion-weaker : {X : Type 0} (P Q : X → Type 0) (xs : List X) → ((x : X) → P x → Q x) → AllByRecursion P xs → AllByRecursion Q xs
AllByRecursion-weaker P Q [] f h = tt
AllByRecursion-weaker P Q (x ∷ xs) f h = (f x h.0, AllByRecursion-weaker P Q xs f h.1)

pub AllByRecursion-append : {X : Type 0} (P : X → Type 0) (xs ys : List X) → AllByRecursion P xs → AllByRecursion P ys → AllByRecursion P (xs ++ ys)
AllByRecursion-append P [] ys h k = k
AllByRecursion-append P (x ∷ xs) ys h k = (h.0, AllByRecursion-append P xs ys h.1 k)

pub AllByRecursion-map : {X Y : Type 0} (P : Y → Type 0) (f : X → Y) (xs : List X) → AllByRecursion (λ x. P (f x)) xs → AllByRecursion P (map f xs)
AllByRecursion-map P f [] h = tt
AllByRecursion-map P f (x ∷ xs) h = (h.0, AllByRecursion-map P f xs h.1)

pub AllByRecursion-filter : {X : Type 0} (P : X → Type 0) (test : X → Bool) (xs : List X) → AllByRecursion P xs → AllByRecursion P (filter test xs)
AllByRecursion-filter P test [] h = tt
AllByRecursion-filter P test (x ∷ xs) h =
    let rest = AllByRecursion-filter P test xs h.1 in
    elim (test x) as (λ b. AllByRecursion P (cond b (x ∷ filter test xs) (filter test xs))) [ true ↦ (h.0, rest) | false ↦ rest ]

-- what a filter keeps passes its test
pub AllByRecursion-passing : {X : Type 0} (test : X → Bool) (xs : List X) → AllByRecursion (λ x. test x ≡ true) (filter test xs)
AllByRecursion-passing test [] = tt
AllByRecursion-passing test (x ∷ xs) =
    let rest = AllByRecursion-passing test xs in
    elim (test x) as (λ b. test x ≡ b → AllByRecursion (λ x. test x ≡ true) (cond b (x ∷ filter test xs) (filter test xs))) [ true ↦ λ e. (e, rest) | false ↦ λ e. rest ] refl

-- what holds of each member holds of a row that is one
pub at-member : (P : Row → Type 0) (xs : List Row) (x : Row) → AllByRecursion P xs → has_row xs x ≡ true → P x
at-member P [] x h there = absurd (true≢false (sym there))
at-member P (y ∷ ys) x h there = here (same_row x y) (same_row-equal x y) there (at-member P ys x h.1)
  where
    here : (b : Bool) → (b ≡ true → x ≡ y) → (b || has_row ys x) ≡ true → (has_row ys x ≡ true → P x) → P x
    here true same t later = subst P (sym (same refl)) h.0
    here false same t later = later t
