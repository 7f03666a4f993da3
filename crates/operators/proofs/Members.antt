-- What holds of each pair of members, and of each number of a range.
use Rattle.std.specs.Prelude.{◌+◌, ◌<◌, ◌≤◌, ℕ, zero, suc, List, [], ◌∷◌, map}
use Rattle.std.specs.List.{AllByRecursion, range_with_len}
use Rattle.std.proofs.Common.{arith}
use Rattle.datasets.proofs.Members.{AllByRecursion-append, AllByRecursion-map}
use Rattle.operators.specs.Weights.{pairs}

-- Q of each pair, from P of its first member
pub AllByRecursion-pairs : {X Y : Type 0} (P : X → Type 0) (Q : X × Y → Type 0) (f : X → List Y) (xs : List X) → ((x : X) → P x → AllByRecursion (λ y. Q (x, y)) (f x)) → AllByRecursion P xs → AllByRecursion Q (pairs xs f)
AllByRecursion-pairs P Q f [] h k = tt
AllByRecursion-pairs P Q f (x ∷ xs) h k =
    AllByRecursion-append Q (map (λ y. (x, y)) (f x)) (pairs xs f) (AllByRecursion-map Q (λ y. (x, y)) (f x) (h x k.0)) (AllByRecursion-pairs P Q f xs h k.1)

pub AllByRecursion-range_with_len : (P : ℕ → Type 0) (a n : ℕ) → ((i : ℕ) → a ≤ i → i < a + n → P i) → AllByRecursion P (range_with_len a n)
AllByRecursion-range_with_len P a zero h = tt
AllByRecursion-range_with_len P a (suc n) h = (h a (omega arith) (omega arith), AllByRecursion-range_with_len P (a + 1) n (λ i low high. h i (omega arith) (omega arith)))
