-- The weights that items give to the rows that they make, item by item.
use Rattle.std.specs.Prelude.{◌≡◌, ◌+◌, ◌≤◌, ℕ, Bool, true, false, cond, filter, List, [], ◌∷◌, ◌++◌, Some, unwrap_or, refl}
use Rattle.std.specs.Map.{lookup}
use Rattle.std.proofs.Common.{add-zero, zero-add, sym, ap, ◌∙◌, arith}
use Rattle.std.proofs.lemmas.List.Elements.{filter-append}
use Rattle.std.proofs.lemmas.List.Sums.{sum_by-append, sum_by-cons}
use Rattle.datasets.specs.Entries.{Row, same_row}
use Rattle.datasets.proofs.Rows.{same_row-equal, same_row-turned}
use Rattle.operators.specs.Operators.{Giving, applying, weight_of}
use Rattle.op_linear.specs.Shares.{RowSums, given, sum_at, weight_for, weight_on}

-- ---- one row's weight

module _ (x : Row) (sum weight : ℕ) (old new : RowSums) where
  -- the row x has a weight more, and every other one what it had
  pub sum_at-added : sum ≡ sum_at old x → ((z : Row) → lookup (same_row z) new ≡ cond (same_row x z) (Some (sum + weight)) (lookup (same_row z) old)) → (z : Row) → sum_at new z ≡ sum_at old z + cond (same_row z x) weight 0
  sum_at-added found updates z =
      ap (λ o. unwrap_or o 0) (updates z)
      ∙ here (same_row x z) (same_row-equal x z)
      ∙ ap (λ b. sum_at old z + cond b weight 0) (same_row-turned x z)
    where
      here : (b : Bool) → (b ≡ true → x ≡ z) → unwrap_or (cond b (Some (sum + weight)) (lookup (same_row z) old)) 0 ≡ sum_at old z + cond b weight 0
      here true same = ap (λ n. n + weight) (found ∙ ap (sum_at old) (same refl))
      here false same = sym (add-zero (sum_at old z))

-- ---- one item

applying-one : (g : Giving) (y : Row) → applying (g ∷ []) y ≡ cond (g.applies y) (g ∷ []) []
applying-one g y = refl

weight_of-one : (g : Giving) → weight_of (g ∷ []) ≡ g.weight
weight_of-one g = zero-add g.weight

-- ---- one item more

module _ (gs : List Giving) (g : Giving) (y : Row) where
  pub weight_of-more : weight_of (applying (gs ++ g ∷ []) y) ≡ weight_of (applying gs y) + weight_on g y
  weight_of-more =
      ap weight_of (filter-append (λ i. i.applies y) gs (g ∷ []))
      ∙ sum_by-append (λ i. i.weight) (applying gs y) (applying (g ∷ []) y)
      ∙ ap (λ n. weight_of (applying gs y) + n) (one (g.applies y))
    where
      one : (b : Bool) → weight_of (cond b (g ∷ []) []) ≡ cond b g.weight 0
      one true = weight_of-one g
      one false = refl

  pub given-more : (z : Row) → given (gs ++ g ∷ []) y z ≡ given gs y z + weight_for g y z
  given-more z =
      ap (λ is. weight_of (filter gives is)) (filter-append (λ i. i.applies y) gs (g ∷ []))
      ∙ ap weight_of (filter-append gives (applying gs y) (applying (g ∷ []) y))
      ∙ sum_by-append (λ i. i.weight) (filter gives (applying gs y)) (filter gives (applying (g ∷ []) y))
      ∙ ap (λ n. given gs y z + n) (one (g.applies y) (same_row z (g.row y)) refl)
    where
      gives : Giving → Bool
      gives i = same_row z (i.row y)

      one : (b c : Bool) → same_row z (g.row y) ≡ c → weight_of (filter (λ i. same_row z (i.row y)) (cond b (g ∷ []) [])) ≡ cond c (cond b g.weight 0) 0
      one true true p = ap (λ c. weight_of (cond c (g ∷ []) [])) p ∙ weight_of-one g
      one true false p = ap (λ c. weight_of (cond c (g ∷ []) [])) p
      one false true p = refl
      one false false p = refl

-- ---- bounds

pub weight_on-le : (g : Giving) (y : Row) → weight_on g y ≤ g.weight
weight_on-le g y = elim (g.applies y) as (λ b. cond b g.weight 0 ≤ g.weight) [ true ↦ omega arith | false ↦ omega arith ]

-- some of the items weigh at most what all weigh
weight_of-filter : (test : Giving → Bool) (is : List Giving) → weight_of (filter test is) ≤ weight_of is
weight_of-filter test [] = omega arith
weight_of-filter test (i ∷ is) =
    let rest = weight_of-filter test is in
    let all = sum_by-cons (λ (i : Giving). i.weight) i is in
    elim (test i) as (λ b. weight_of (cond b (i ∷ filter test is) (filter test is)) ≤ weight_of (i ∷ is)) [
      | true ↦ let some = sum_by-cons (λ (i : Giving). i.weight) i (filter test is) in omega arith
      | false ↦ omega arith
    ]

pub given-le : (gs : List Giving) (y z : Row) → given gs y z ≤ weight_of (applying gs y)
given-le gs y z = weight_of-filter (λ i. same_row z (i.row y)) (applying gs y)
