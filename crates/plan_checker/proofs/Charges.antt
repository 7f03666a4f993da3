-- What sources are charged in two worlds, each so often as a function of the source says.
use Rattle.std.specs.Prelude.{◌≡◌, ◌<◌, ◌≤◌, ◌+◌, ℕ, zero, suc, true, false, if◌then◌else◌, nat_eq, map, refl}
use Rattle.std.specs.List.{range_with_len}
use Rattle.std.proofs.Common.{arith, sym, ap, ap₂, ◌∙◌}
use Rattle.std.proofs.lemmas.Bool.Decides.{nat_tests}
use Rattle.std.proofs.lemmas.List.FromFn.{get_or-map-range_with_len, length-map-range_with_len}
use Rattle.ratios.specs.Ratio.{Ratio, one_ratio, ratio_add, ratio_mul, zero_ratio}
use Rattle.ratios.proofs.Additive.{ratio_zero_add}
use Rattle.ratios.proofs.Field.{le_add, le_then, mul_comm, mul_nonneg}
use Rattle.ratios.proofs.Linear.{◌⊑◌}
use Rattle.ratios.proofs.Parts.{ratio-one}
use Rattle.ratios.proofs.Products.{ratio_mul_add, ratio_mul_one, ratio_of_both, ratio_of_none, ratio_zero_mul}
use Rattle.ratios.proofs.Quotients.{ratio_nonneg}
use Rattle.ratios.proofs.Totals.{total, total-add, total-cons, total-nonneg, total-same, total-same_all}
use Rattle.datasets.specs.Dataset.{dist}
use Rattle.datasets.proofs.Distances.{dist-nonneg}
use Rattle.operators.proofs.Members.{AllByRecursion-range_with_len}
use Rattle.plan_model.specs.Evaluation.{Family, dataset_at}
use Rattle.plan_model.specs.Uses.{count_at}
use Rattle.plan_checker.specs.Stability.{charged, whole}

-- ---- whole numbers as ratios

-- as often as both together
whole_add : (m n : ℕ) (q : Ratio) → ratio_mul (whole (m + n)) q ≡ ratio_add (ratio_mul (whole m) q) (ratio_mul (whole n) q)
whole_add m n q =
    ap (λ t. ratio_mul t q) (ratio_of_both m n 1) ∙ mul_comm (ratio_add (whole m) (whole n)) q ∙ ratio_mul_add q (whole m) (whole n) ∙ ap₂ ratio_add (mul_comm q (whole m)) (mul_comm q (whole n))

once : (q : Ratio) → ratio_mul (whole 1) q ≡ q
once q = ap (λ t. ratio_mul t q) ratio-one ∙ mul_comm one_ratio q ∙ ratio_mul_one q

never : (q : Ratio) → ratio_mul (whole 0) q ≡ zero_ratio
never q = ap (λ t. ratio_mul t q) (ratio_of_none 1) ∙ ratio_zero_mul q

-- ---- charges

module _ (F G : Family) where
  -- how far the source s is apart
  abbrev pub source_apart : ℕ → Ratio
  source_apart s = dist (dataset_at F s) (dataset_at G s)

  -- that, f s times
  abbrev taken : (ℕ → ℕ) → ℕ → Ratio
  taken f s = ratio_mul (whole (f s)) (source_apart s)

  -- what the first n sources are charged
  abbrev pub charge : ℕ → (ℕ → ℕ) → Ratio
  charge n f = total (taken f) (range_with_len 0 n)

  taken_nonneg : (f : ℕ → ℕ) (s : ℕ) → zero_ratio ⊑ taken f s
  taken_nonneg f s = mul_nonneg (ratio_nonneg (f s) 1) (dist-nonneg (dataset_at F s) (dataset_at G s))

  pub charge_nonneg : (n : ℕ) (f : ℕ → ℕ) → zero_ratio ⊑ charge n f
  charge_nonneg n f = total-nonneg (taken f) (range_with_len 0 n) (taken_nonneg f)

  pub charge_add : (n : ℕ) (f g : ℕ → ℕ) → charge n (λ s. f s + g s) ≡ ratio_add (charge n f) (charge n g)
  charge_add n f g =
      total-same (taken (λ s. f s + g s)) (λ s. ratio_add (taken f s) (taken g s)) (range_with_len 0 n) (λ s. whole_add (f s) (g s) (source_apart s))
      ∙ total-add (taken f) (taken g) (range_with_len 0 n)

  pub charge_same : (n : ℕ) (f g : ℕ → ℕ) → ((s : ℕ) → f s ≡ g s) → charge n f ≡ charge n g
  charge_same n f g h = total-same (taken f) (taken g) (range_with_len 0 n) (λ s. ap (λ k. ratio_mul (whole k) (source_apart s)) (h s))

  -- 1 for the source i, and 0 for each other one
  abbrev pub just : ℕ → ℕ → ℕ
  just i s = if nat_eq i s then 1 else 0

  just_from : (i a n : ℕ) → a ≤ i → i < a + n → source_apart i ⊑ total (taken (just i)) (range_with_len a n)
  just_from i a zero h k = absurd (omega arith)
  just_from i a (suc n) h k =
      let rest = total (taken (just i)) (range_with_len (a + 1) n) in
      le_then (elim (nat_eq i a) as (λ b. nat_eq i a ≡ b → source_apart i ⊑ ratio_add (ratio_mul (whole (if b then 1 else 0)) (source_apart a)) rest) [
        | true ↦ λ e.
            let same : i ≡ a = grind (arith, nat_tests) in
            le_then (le_add (source_apart i) (total-nonneg (taken (just i)) (range_with_len (a + 1) n) (taken_nonneg (just i)))) (ap (λ q. ratio_add q rest) (ap source_apart same ∙ sym (once (source_apart a))))
        | false ↦ λ e.
            let above : a + 1 ≤ i = grind (arith, nat_tests) in
            le_then (just_from i (a + 1) n above (omega arith)) (sym (ap (λ q. ratio_add q rest) (never (source_apart a)) ∙ ratio_zero_add rest))
      ] refl) (sym (total-cons (taken (just i)) a (range_with_len (a + 1) n)))

  -- one source is charged once
  pub charge_just : (i n : ℕ) → i < n → source_apart i ⊑ charge n (just i)
  charge_just i n h = just_from i 0 n (omega arith) (omega arith)

  -- the charge of listed uses
  pub charged_is : (n : ℕ) (f : ℕ → ℕ) → charged (map f (range_with_len 0 n)) F G ≡ charge n f
  charged_is n f =
      let listed = map f (range_with_len 0 n) in
      ap (λ m. total (taken (count_at listed)) (range_with_len 0 m)) (length-map-range_with_len f 0 n)
      ∙ total-same_all (taken (count_at listed)) (taken f) (range_with_len 0 n)
      (AllByRecursion-range_with_len (λ s. taken (count_at listed) s ≡ taken f s) 0 n
      (λ s low high. ap (λ k. ratio_mul (whole k) (source_apart s)) (get_or-map-range_with_len f 0 n s s 0 (omega arith) (omega arith))))
