-- The rows of weight at least t change at the levels alone.
use Rattle.std.specs.List.{AllByRecursion}
use Rattle.std.specs.Prelude.{◌≡◌, ◌⊎◌, Bool, true, false, cond, filter, List, [], ◌∷◌, refl}
use Rattle.std.proofs.Common.{inl, inr, sym, ap, ap₂, ◌∙◌, true≢false}
use Rattle.std.proofs.lemmas.Bool.{false_from_ne_true}
use Rattle.ratios.specs.Ratio.{Ratio, is_at_most}
use Rattle.ratios.proofs.AtMost.{at_most_itself}
use Rattle.ratios.proofs.Falling.{AreFalling, Has, IsUnder, falling_first, falling_rest, of_member, under_at_most, under_le, under_not_at_most}
use Rattle.ratios.proofs.Field.{le_from, le_same, le_trans}
use Rattle.ratios.proofs.Linear.{◌⊑◌}
use Rattle.datasets.specs.Entries.{Row}
use Rattle.datasets.proofs.Members.{AllByRecursion-weaker}
use Rattle.stability_laws.proofs.Cuts.{step_value}

filter-same : (p q : Row → Bool) (xs : List Row) → AllByRecursion (λ x. p x ≡ q x) xs → filter p xs ≡ filter q xs
filter-same p q [] h = refl
filter-same p q (x ∷ xs) h = ap₂ (λ b ys. cond b (x ∷ ys) ys) h.0 (filter-same p q xs h.1)

filter-never : (xs : List Row) → filter (λ x. false) xs ≡ []
filter-never [] = refl
filter-never (x ∷ xs) = filter-never xs

-- weights at the most w are not at least t, where w is not
not_at_most_lower : (t w l : Ratio) → is_at_most t l ≡ false → w ⊑ l → is_at_most t w ≡ false
not_at_most_lower t w l e h = false_from_ne_true (is_at_most t w) (λ k. true≢false (sym ((le_trans (le_from t w k) h).le) ∙ e))

module _ (w : Row → Ratio) (xs : List Row) (gives : List Row → Bool) where
  abbrev above : Ratio → List Row
  above t = filter (λ x. is_at_most t (w x)) xs

  abbrev gives_at : Ratio → Bool
  gives_at t = gives (above t)

  -- a row has been passed, and weighs at least t and each level that is left; or it is at one of these
  abbrev IsPlaced : (Row → Bool) → Ratio → List Ratio → Row → Type 0
  IsPlaced passed t ls x = ((passed x ≡ true) × (is_at_most t (w x) ≡ true) × AllByRecursion (λ l. is_at_most l (w x) ≡ true) ls) ⊎ ((passed x ≡ false) × Has ls (w x))

  no_level : (passed : Row → Bool) (t : Ratio) (x : Row) → IsPlaced passed t [] x → is_at_most t (w x) ≡ passed x
  no_level passed t x (inl h) = h.1 ∙ sym h.0
  no_level passed t x (inr h) = absurd h.1

  lower_at_most : (l : Ratio) (ls : List Ratio) (x : Row) → AreFalling (l ∷ ls) → Has (l ∷ ls) (w x) → w x ⊑ l
  lower_at_most l ls x falls (inl e) = le_same e
  lower_at_most l ls x falls (inr h) = under_le l (w x) (of_member (IsUnder l) ls (w x) (falling_first l ls falls) h)

  above_level : (passed : Row → Bool) (t l : Ratio) (ls : List Ratio) → AreFalling (l ∷ ls) → is_at_most t l ≡ false → (x : Row) → IsPlaced passed t (l ∷ ls) x → is_at_most t (w x) ≡ passed x
  above_level passed t l ls falls e x (inl h) = h.1 ∙ sym h.0
  above_level passed t l ls falls e x (inr h) = not_at_most_lower t (w x) l e (lower_at_most l ls x falls h.1) ∙ sym h.0

  next_level : (passed : Row → Bool) (t l : Ratio) (ls : List Ratio) → AreFalling (l ∷ ls) → is_at_most t l ≡ true → (x : Row) → IsPlaced passed t (l ∷ ls) x → IsPlaced (λ x. is_at_most l (w x)) t ls x
  next_level passed t l ls falls e x (inl h) = inl (h.2.0, h.1, h.2.1)
  next_level passed t l ls falls e x (inr h) = level h.1
    where
      level : Has (l ∷ ls) (w x) → IsPlaced (λ x. is_at_most l (w x)) t ls x
      level (inl same) =
          inl (
            ap (is_at_most l) same ∙ at_most_itself l,
            ap (is_at_most t) same ∙ e,
            AllByRecursion-weaker (IsUnder l) (λ m. is_at_most m (w x) ≡ true) ls (λ m less. ap (is_at_most m) same ∙ under_at_most l m less) (falling_first l ls falls),
          )
      level (inr lower) = inr (under_not_at_most l (w x) (of_member (IsUnder l) ls (w x) (falling_first l ls falls) lower), lower)

  steps : (t : Ratio) (passed : Row → Bool) (ls : List Ratio) → AreFalling ls → AllByRecursion (IsPlaced passed t ls) xs → gives_at t ≡ step_value gives_at (gives (filter passed xs)) ls t
  steps t passed [] falls placed = ap gives (filter-same (λ x. is_at_most t (w x)) passed xs (AllByRecursion-weaker (IsPlaced passed t []) (λ x. is_at_most t (w x) ≡ passed x) xs (no_level passed t) placed))
  steps t passed (l ∷ ls) falls placed =
      elim (is_at_most t l) as (λ c. is_at_most t l ≡ c → gives_at t ≡ cond c (step_value gives_at (gives_at l) ls t) (gives (filter passed xs))) [
        | true ↦ λ e. steps t (λ x. is_at_most l (w x)) ls (falling_rest l ls falls) (AllByRecursion-weaker (IsPlaced passed t (l ∷ ls)) (IsPlaced (λ x. is_at_most l (w x)) t ls) xs (next_level passed t l ls falls e) placed)
        | false ↦ λ e. ap gives (filter-same (λ x. is_at_most t (w x)) passed xs (AllByRecursion-weaker (IsPlaced passed t (l ∷ ls)) (λ x. is_at_most t (w x) ≡ passed x) xs (above_level passed t l ls falls e) placed))
      ] refl

  -- what the rows of weight at least t give is a step function of t, with steps at the weights alone
  pub gives_in_steps : gives [] ≡ false → (ls : List Ratio) → AreFalling ls → AllByRecursion (λ x. Has ls (w x)) xs → (t : Ratio) → gives_at t ≡ step_value gives_at false ls t
  gives_in_steps none ls falls among t =
      steps t (λ x. false) ls falls (AllByRecursion-weaker (λ x. Has ls (w x)) (IsPlaced (λ x. false) t ls) xs (λ x h. inr (refl, h)) among)
      ∙ ap (λ v. step_value gives_at v ls t) (ap gives (filter-never xs) ∙ none)
