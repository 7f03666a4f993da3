-- Sums taken key by key.
use Rattle.std.specs.List.{AllByRecursion}
use Rattle.std.specs.List.Sorted.{IsStrictlySortedBy}
use Rattle.std.specs.Prelude.{◌≡◌, ◌||◌, true, false, filter, List, [], ◌∷◌, map}
use Rattle.std.proofs.Common.{sym, ap, ◌∙◌}
use Rattle.std.proofs.Math.Bool.{or-true}
use Rattle.ratios.specs.Ratio.{Ratio}
use Rattle.ratios.proofs.Field.{le_then, same_then}
use Rattle.ratios.proofs.Linear.{◌⊑◌}
use Rattle.ratios.proofs.Totals.{only, total, total-filter, total-le, total-same, total-same_all, total-swap}
use Rattle.datasets.specs.Dataset.{with_rows}
use Rattle.datasets.specs.Entries.{AreRising, Row, has_row, same_row}
use Rattle.datasets.proofs.Members.{AllByRecursion-weaker}
use Rattle.datasets.proofs.Picks.{total-pick}
use Rattle.datasets.proofs.RowLists.{AreRising-with_rows, has_row-with_rows}
use Rattle.datasets.proofs.Rows.{same_row-itself, same_row-turned}

module _ {X : Type 0} (key : X → Row) where
  -- the keys of some members, in order
  abbrev keys_of : List X → List Row
  keys_of xs = with_rows (map key xs) []

  rising_keys : (xs : List X) → AreRising (keys_of xs)
  unfolding IsStrictlySortedBy
  rising_keys xs = AreRising-with_rows (map key xs) [] tt

  has_keys : (xs : List X) → AllByRecursion (λ x. has_row (map key xs) (key x) ≡ true) xs
  has_keys [] = tt
  has_keys (x ∷ xs) = (
    ap (λ b. b || has_row (map key xs) (key x)) (same_row-itself (key x)),
    AllByRecursion-weaker (λ y. has_row (map key xs) (key y) ≡ true) (λ y. (same_row (key y) (key x) || has_row (map key xs) (key y)) ≡ true) xs (λ y e. ap (λ b. same_row (key y) (key x) || b) e ∙ or-true (same_row (key y) (key x))) (has_keys xs),
  )

  -- a member counts at its key, and at no other
  counted : (f : X → Ratio) (xs : List X) (x : X) → has_row (map key xs) (key x) ≡ true → f x ≡ total (λ k. only (same_row k (key x)) (f x)) (keys_of xs)
  counted f xs x e =
      sym
      (total-same (λ k. only (same_row k (key x)) (f x)) (λ k. only (same_row (key x) k) (f x)) (keys_of xs) (λ k. ap (λ b. only b (f x)) (same_row-turned k (key x)))
      ∙ total-pick (key x) (λ k. f x) (keys_of xs) (rising_keys xs)
      ∙ ap (λ b. only b (f x)) (has_row-with_rows (map key xs) [] (key x) ∙ ap (λ b. b || false) e))

  -- the members with a key
  abbrev pub with_key : List X → Row → List X
  with_key xs k = filter (λ x. same_row k (key x)) xs

  -- a sum is the sum over the keys of what the members with that key sum to
  pub total-by_key : (f : X → Ratio) (xs : List X) → total f xs ≡ total (λ k. total f (with_key xs k)) (keys_of xs)
  total-by_key f xs =
      total-same_all f (λ x. total (λ k. only (same_row k (key x)) (f x)) (keys_of xs)) xs
      (AllByRecursion-weaker (λ x. has_row (map key xs) (key x) ≡ true) (λ x. f x ≡ total (λ k. only (same_row k (key x)) (f x)) (keys_of xs)) xs (counted f xs) (has_keys xs))
      ∙ total-swap (λ x k. only (same_row k (key x)) (f x)) xs (keys_of xs)
      ∙ total-same (λ k. total (λ x. only (same_row k (key x)) (f x)) xs) (λ k. total f (with_key xs k)) (keys_of xs) (λ k. sym (total-filter (λ x. same_row k (key x)) f xs))

  -- what is at most another sum at each key is so as a whole
  pub total-le_by_key : (f g : X → Ratio) (xs : List X) → ((k : Row) → total f (with_key xs k) ⊑ total g (with_key xs k)) → total f xs ⊑ total g xs
  total-le_by_key f g xs h =
      same_then (total-by_key f xs) (le_then (total-le (λ k. total f (with_key xs k)) (λ k. total g (with_key xs k)) (keys_of xs) h) (sym (total-by_key g xs)))
