-- What a group weighs at a key followed by an atom.
use Rattle.std.specs.Prelude.{◌≡◌, ◌≢◌, true, false, cond, filter, length, List, [], ◌∷◌, ◌++◌, map, refl}
use Rattle.std.proofs.Common.{arith, inl, inr, sym, ap, ap₂, ◌∙◌, true≢false}
use Rattle.std.proofs.lemmas.Bool.{false_from_ne_true}
use Rattle.std.proofs.lemmas.List.{length-append}
use Rattle.ratios.specs.Ratio.{Ratio, ratio_add, ratio_half, zero_ratio}
use Rattle.ratios.specs.Sums.{ratio_sum}
use Rattle.ratios.proofs.Additive.{ratio_add_zero, ratio_zero_add}
use Rattle.ratios.proofs.SumLaws.{ratio_sum-cons}
use Rattle.record_text.specs.declared.atom.Atom.{Atom}
use Rattle.datasets.specs.Dataset.{rows}
use Rattle.datasets.specs.Entries.{Row, same_row}
use Rattle.datasets.proofs.Rows.{same_row-equal, same_row-itself}
use Rattle.datasets.proofs.Members.{AllByRecursion-everywhere}
use Rattle.datasets.proofs.Rising.{AreRising-none}
use Rattle.datasets.proofs.RowLists.{AreRising-with_rows}
use Rattle.operators.specs.Laws.{GroupAtKey}
use Rattle.operators.specs.Operators.{gap, group_row, half_gap, key_levels, keys, levels, part, top}
use Rattle.operators.specs.Weights.{weights_for}
use Rattle.operators.proofs.Elsewhere.{weights_for-none}
use Rattle.operators.proofs.Gathered.{at-gathered, ratio_sum-pairs}
use Rattle.operators.proofs.Once.{HasNowhere, HasOnce, HasOnce-rising}
use Rattle.operators.proofs.SingleWeights.{same_backs, same_fronts}

-- ---- sums to which one member alone adds

module _ (h : Row → Ratio) (y : Row) (other : (x : Row) → x ≢ y → h x ≡ zero_ratio) where
  sum_nowhere : (xs : List Row) → HasNowhere y xs → ratio_sum (map h xs) ≡ zero_ratio
  sum_nowhere [] none = refl
  sum_nowhere (x ∷ xs) none = ratio_sum-cons (h x) (map h xs) ∙ ap₂ ratio_add (other x none.0) (sum_nowhere xs none.1) ∙ ratio_zero_add zero_ratio

  sum_once : (xs : List Row) → HasOnce y xs → ratio_sum (map h xs) ≡ h y
  sum_once [] once = absurd once
  sum_once (x ∷ xs) (inl here) = ratio_sum-cons (h x) (map h xs) ∙ ap₂ ratio_add (ap h here.0) (sum_nowhere xs here.1) ∙ ratio_add_zero (h y)
  sum_once (x ∷ xs) (inr later) = ratio_sum-cons (h x) (map h xs) ∙ ap₂ ratio_add (other x later.0) (sum_once xs later.1) ∙ ratio_zero_add (h y)

-- ---- rows that end with one atom

same_key : (k l : Row) (a b : Atom) → k ++ a ∷ [] ≡ l ++ b ∷ [] → length k ≡ length l
same_key k l a b e = omega (arith, ap length e, length-append k (a ∷ []), length-append l (b ∷ []))

same_row-after : (k : Row) (a b : Atom) → same_row (k ++ a ∷ []) (k ++ b ∷ []) ≡ same_row (a ∷ []) (b ∷ [])
same_row-after k a b =
    elim (same_row (a ∷ []) (b ∷ [])) as (λ c. same_row (a ∷ []) (b ∷ []) ≡ c → same_row (k ++ a ∷ []) (k ++ b ∷ []) ≡ c) [
      | true ↦ λ e. ap (λ z. same_row (k ++ a ∷ []) (k ++ z)) (sym (same_row-equal (a ∷ []) (b ∷ []) e)) ∙ same_row-itself (k ++ a ∷ [])
      | false ↦ λ e. false_from_ne_true (same_row (k ++ a ∷ []) (k ++ b ∷ [])) (λ same.
          let ends = same_backs k k (a ∷ []) (b ∷ []) refl (same_row-equal (k ++ a ∷ []) (k ++ b ∷ []) same) in
          true≢false (sym (same_row-itself (a ∷ [])) ∙ ap (same_row (a ∷ [])) ends ∙ e))
    ] refl

weights_for-after : {X : Type 0} (k : Row) (atom : X → Atom) (weight : X → Ratio) (xs : List X) (a : Atom) →
    weights_for (λ x. k ++ atom x ∷ []) weight xs (k ++ a ∷ []) ≡ weights_for (λ x. atom x ∷ []) weight xs (a ∷ [])
weights_for-after k atom weight [] a = refl
weights_for-after k atom weight (x ∷ xs) a =
    ap (λ b. map weight (cond b (x ∷ filter (λ x. same_row (k ++ a ∷ []) (k ++ atom x ∷ [])) xs) (filter (λ x. same_row (k ++ a ∷ []) (k ++ atom x ∷ [])) xs))) (same_row-after k a (atom x))
    ∙ elim (same_row (a ∷ []) (atom x ∷ [])) as (λ b. map weight (cond b (x ∷ filter (λ x. same_row (k ++ a ∷ []) (k ++ atom x ∷ [])) xs) (filter (λ x. same_row (k ++ a ∷ []) (k ++ atom x ∷ [])) xs)) ≡ map weight (cond b (x ∷ filter (λ x. same_row (a ∷ []) (atom x ∷ [])) xs) (filter (λ x. same_row (a ∷ []) (atom x ∷ [])) xs))) [
      | true ↦ ap (λ ws. weight x ∷ ws) (weights_for-after k atom weight xs a)
      | false ↦ weights_for-after k atom weight xs a
    ]

-- ---- the weight

pub group_at_key : GroupAtKey
group_at_key key reduce A k a there =
    let z : Row = k ++ a ∷ [] in
    let weigh : Row → Ratio = λ l. ratio_sum (weights_for (λ t. group_row key reduce A (l, t)) (λ t. half_gap key A (l, t)) (levels (part key l A)) z) in
    let other : (l : Row) → l ≢ k → weigh l ≡ zero_ratio =
    λ l apart. ap ratio_sum (weights_for-none (λ t. group_row key reduce A (l, t)) (λ t. half_gap key A (l, t)) (levels (part key l A)) z
    (AllByRecursion-everywhere (λ t. z ≢ group_row key reduce A (l, t)) (levels (part key l A))
    (λ t e. apart (sym (same_fronts k l (a ∷ []) (reduce (top (part key l A) t) ∷ []) (same_key k l a _ e) e))))) in
    at-gathered (group_row key reduce A) (half_gap key A) (key_levels key A) z
    ∙ ratio_sum-pairs (group_row key reduce A) (half_gap key A) (λ l. levels (part key l A)) (keys key A) z
    ∙ sum_once weigh k other (keys key A) (HasOnce-rising (keys key A) k (AreRising-with_rows (map key (rows A)) [] AreRising-none) there)
    ∙ ap ratio_sum (weights_for-after k (λ t. reduce (top (part key k A) t)) (λ t. ratio_half (gap (part key k A) t)) (levels (part key k A)) a)
