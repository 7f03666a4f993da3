-- The gaps of the thresholds between two weights add up to their distance.
use Rattle.std.specs.List.{AllByRecursion}
use Rattle.std.specs.Prelude.{◌≡◌, ◌⊎◌, Bool, true, false, not, cond, List, [], ◌∷◌, refl}
use Rattle.std.proofs.Common.{inl, inr, sym, ap, ap₂, subst, ◌∙◌, true≢false}
use Rattle.ratios.specs.Ratio.{Ratio, is_at_most, ratio_abs, ratio_add, ratio_half, ratio_sub, zero_ratio}
use Rattle.ratios.proofs.Additive.{ratio_abs_sub_comm, ratio_abs_zero, ratio_add_zero, ratio_sub_itself, sub_zero}
use Rattle.ratios.proofs.AtMost.{at_most_itself}
use Rattle.ratios.proofs.Falling.{AreFalling, AreFalling-one, AreFalling-two, Has, IsUnder, at_most_split, falling_first, falling_rest, under_at_most, under_from_test, under_le, under_not_at_most}
use Rattle.ratios.proofs.Field.{abs_of_lower, le_from, le_trans, sub_nonneg}
use Rattle.ratios.proofs.Halves.{half_add, half_nonneg, half_zero}
use Rattle.ratios.proofs.Linear.{◌⊑◌}
use Rattle.ratios.proofs.Totals.{only, total, total-add, total-cons, total-same, total-zero}
use Rattle.datasets.proofs.Members.{AllByRecursion-everywhere, AllByRecursion-weaker}
use Rattle.operators.specs.Operators.{down_to}
use Rattle.stability_laws.proofs.Cuts.{cut_total, cut_total-refined, cuts, step_value}

-- ---- between two weights

-- the two tests differ
abbrev pub differ : Bool → Bool → Bool
differ true b = not b
differ false b = b

pub differ-itself : (b : Bool) → differ b b ≡ false
differ-itself true = refl
differ-itself false = refl

differ-turned : (a b : Bool) → differ a b ≡ differ b a
differ-turned true true = refl
differ-turned true false = refl
differ-turned false true = refl
differ-turned false false = refl

-- exactly one of u and v is at least t
abbrev pub between : Ratio → Ratio → Ratio → Bool
between u v t = differ (is_at_most t u) (is_at_most t v)

-- each threshold is above 0
abbrev pub IsAboveZero : Ratio → Type 0
IsAboveZero t = is_at_most t zero_ratio ≡ false

module _ (ts : List Ratio) (falls : AreFalling ts) (above : AllByRecursion IsAboveZero ts) where
  -- between a lower and an upper threshold
  steps_of_two : (u v : Ratio) → IsUnder v u → (t : Ratio) → between u v t ≡ step_value (between u v) false (v ∷ u ∷ []) t
  steps_of_two u v less t =
      elim (is_at_most t v) as (λ b. is_at_most t v ≡ b → differ (is_at_most t u) b ≡ cond b (cond (is_at_most t u) (between u v u) (between u v v)) false) [
        | true ↦ λ e.
            elim (is_at_most t u) as (λ c. differ c true ≡ cond c (between u v u) (between u v v)) [
              | true ↦ sym (ap₂ differ (at_most_itself u) (under_at_most v u less))
              | false ↦ sym (ap₂ differ (under_not_at_most v u less) (at_most_itself v))
            ]
        | false ↦ λ e.
            elim (is_at_most t u) as (λ c. is_at_most t u ≡ c → differ c false ≡ false) [
              | true ↦ λ k. absurd (true≢false (sym ((le_trans (le_from t u k) (under_le v u less)).le) ∙ e))
              | false ↦ λ k. refl
            ] refl
      ] refl

  of_two : (u v : Ratio) → IsUnder v u → Has ts u → Has ts v → cut_total (between u v) ts ≡ ratio_half (ratio_sub v u)
  of_two u v less hu hv =
      cut_total-refined (between u v) ts (v ∷ u ∷ []) falls (AreFalling-two v u less) (hv, (hu, tt))
      (AllByRecursion-everywhere (λ t. between u v t ≡ step_value (between u v) false (v ∷ u ∷ []) t) ts (steps_of_two u v less))
      ∙ total-cons {X = Ratio × Ratio} (λ c. only (between u v c.0) c.1) (v, ratio_half (ratio_sub v u)) ((u, ratio_half u) ∷ [])
      ∙ ap₂ (λ a b. ratio_add (only a (ratio_half (ratio_sub v u))) (total {X = Ratio × Ratio} (λ c. only b c.1) ((u, ratio_half u) ∷ [])))
      (ap₂ differ (under_not_at_most v u less) (at_most_itself v)) (ap₂ differ (at_most_itself u) (under_at_most v u less))
      ∙ ap (ratio_add (ratio_half (ratio_sub v u))) (total-zero {X = Ratio × Ratio} (λ c. zero_ratio) ((u, ratio_half u) ∷ []) (λ c. refl))
      ∙ ratio_add_zero (ratio_half (ratio_sub v u))

  -- between 0 and a threshold
  steps_of_one : (v t : Ratio) → IsAboveZero v → IsAboveZero t → between zero_ratio v t ≡ step_value (between zero_ratio v) false (v ∷ []) t
  steps_of_one v t positive here =
      elim (is_at_most t v) as (λ b. differ (is_at_most t zero_ratio) b ≡ cond b (between zero_ratio v v) false) [
        | true ↦ ap (λ a. differ a true) here ∙ sym (ap₂ differ positive (at_most_itself v))
        | false ↦ ap (λ a. differ a false) here
      ]

  of_one : (v : Ratio) → IsAboveZero v → Has ts v → cut_total (between zero_ratio v) ts ≡ ratio_half v
  of_one v positive hv =
      cut_total-refined (between zero_ratio v) ts (v ∷ []) falls (AreFalling-one v) (hv, tt)
      (AllByRecursion-weaker IsAboveZero (λ t. between zero_ratio v t ≡ step_value (between zero_ratio v) false (v ∷ []) t) ts (λ t. steps_of_one v t positive) above)
      ∙ total-cons {X = Ratio × Ratio} (λ c. only (between zero_ratio v c.0) c.1) (v, ratio_half v) []
      ∙ ratio_add_zero (only (between zero_ratio v v) (ratio_half v))
      ∙ ap (λ b. only b (ratio_half v)) (ap₂ differ positive (at_most_itself v))

  -- 0 or a threshold
  abbrev IsMarked : Ratio → Type 0
  IsMarked u = (u ≡ zero_ratio) ⊎ Has ts u

  of_lower : (u v : Ratio) → zero_ratio ⊑ u → IsUnder v u → IsMarked u → IsMarked v → cut_total (between u v) ts ≡ ratio_half (ratio_sub v u)
  of_lower u v h less mu (inl e) = absurd (true≢false (sym (ap (λ q. is_at_most q u) e ∙ h.le) ∙ under_not_at_most v u less))
  of_lower u v h less (inr hu) (inr hv) = of_two u v less hu hv
  of_lower u v h less (inl e) (inr hv) =
      ap (λ q. cut_total (between q v) ts) e
      ∙ of_one v (subst (λ q. is_at_most v q ≡ false) e (under_not_at_most v u less)) hv
      ∙ ap ratio_half (sym (sub_zero v) ∙ ap (ratio_sub v) (sym e))

  half_between : (u v : Ratio) → zero_ratio ⊑ u → zero_ratio ⊑ v → IsMarked u → IsMarked v → cut_total (between u v) ts ≡ ratio_half (ratio_abs (ratio_sub u v))
  half_between u v hu hv mu mv =
      elim (is_at_most u v) as (λ b. is_at_most u v ≡ b → cut_total (between u v) ts ≡ ratio_half (ratio_abs (ratio_sub u v))) [
        | true ↦ λ e. lower (at_most_split u v e)
        | false ↦ λ e.
            let less = under_from_test u v e in
            total-same (λ c. only (between u v c.0) c.1) (λ c. only (between v u c.0) c.1) (cuts ts) (λ c. ap (λ b. only b c.1) (differ-turned (is_at_most c.0 u) (is_at_most c.0 v)))
            ∙ of_lower v u hv less mv mu
            ∙ ap ratio_half (sym (abs_of_lower (under_le u v less)) ∙ ratio_abs_sub_comm v u)
      ] refl
    where
      lower : (u ≡ v) ⊎ IsUnder v u → cut_total (between u v) ts ≡ ratio_half (ratio_abs (ratio_sub u v))
      lower (inl e) =
          ap (λ q. cut_total (between u q) ts) (sym e)
          ∙ total-same (λ c. only (between u u c.0) c.1) (λ c. zero_ratio) (cuts ts) (λ c. ap (λ b. only b c.1) (differ-itself (is_at_most c.0 u)))
          ∙ total-zero (λ c. zero_ratio) (cuts ts) (λ c. refl)
          ∙ sym (ap ratio_half (ap (λ q. ratio_abs (ratio_sub u q)) (sym e) ∙ ap ratio_abs (ratio_sub_itself u) ∙ ratio_abs_zero) ∙ half_zero)
      lower (inr less) = of_lower u v hu less mu mv ∙ ap ratio_half (sym (abs_of_lower (under_le v u less)))

  -- twice the half gaps at the thresholds between two weights
  pub gaps_between : (u v : Ratio) → zero_ratio ⊑ u → zero_ratio ⊑ v → IsMarked u → IsMarked v → total (λ c. only (between u v c.0) (ratio_add c.1 c.1)) (cuts ts) ≡ ratio_abs (ratio_sub u v)
  gaps_between u v hu hv mu mv =
      total-same (λ c. only (between u v c.0) (ratio_add c.1 c.1)) (λ c. ratio_add (only (between u v c.0) c.1) (only (between u v c.0) c.1)) (cuts ts) (λ c. both (between u v c.0) c.1)
      ∙ total-add (λ c. only (between u v c.0) c.1) (λ c. only (between u v c.0) c.1) (cuts ts)
      ∙ ap (λ q. ratio_add q q) (half_between u v hu hv mu mv)
      ∙ half_add (ratio_abs (ratio_sub u v))
    where
      both : (b : Bool) (q : Ratio) → only b (ratio_add q q) ≡ ratio_add (only b q) (only b q)
      both true q = refl
      both false q = sym (ratio_add_zero zero_ratio)

-- a threshold above 0, and a half gap that isn't below 0
abbrev pub IsSound : Ratio × Ratio → Type 0
IsSound c = IsAboveZero c.0 × zero_ratio ⊑ c.1

zero_le : (t : Ratio) → IsAboveZero t → zero_ratio ⊑ t
zero_le t h = under_le t zero_ratio (under_from_test t zero_ratio h)

half_gap_sound : (t : Ratio) (ts : List Ratio) → AllByRecursion (IsUnder t) ts → IsAboveZero t → zero_ratio ⊑ (ratio_half (down_to t ts))
half_gap_sound t [] under h = half_nonneg (zero_le t h)
half_gap_sound t (u ∷ us) under h = half_nonneg (sub_nonneg (under_le t u under.0))

pub cuts_sound : (ts : List Ratio) → AreFalling ts → AllByRecursion IsAboveZero ts → AllByRecursion IsSound (cuts ts)
cuts_sound [] falls above = tt
cuts_sound (t ∷ ts) falls above = ((above.0, half_gap_sound t ts (falling_first t ts falls) above.0), cuts_sound ts (falling_rest t ts falls) above.1)
