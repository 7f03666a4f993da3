-- Two groups are no further apart than their inputs.
use Rattle.std.specs.List.{AllByRecursion}
use Rattle.std.specs.Prelude.{◌≡◌, ◌≢◌, ◌⊎◌, ◌++◌, true, false, List, [], ◌∷◌, map, refl}
use Rattle.std.proofs.Common.{inl, inr, sym, ap, ap₂, ◌∙◌}
use Rattle.std.proofs.lemmas.Bool.{false_from_ne_true, or_parts}
use Rattle.ratios.specs.Ratio.{Ratio, ratio_abs, ratio_add, ratio_sub, zero_ratio}
use Rattle.ratios.proofs.Falling.{AreFalling, Has}
use Rattle.ratios.proofs.Field.{abs_nonneg, le_antisym, le_from, le_then, le_trans, same_then}
use Rattle.ratios.proofs.Linear.{◌⊑◌}
use Rattle.ratios.proofs.Totals.{only, only_both, total, total-apart, total-le, total-le_all, total-only, total-same, total-swap}
use Rattle.record_text.specs.declared.atom.Atom.{Atom}
use Rattle.datasets.specs.Dataset.{Dataset, apart, at, dist, rows, rows_of_either, with_rows}
use Rattle.datasets.specs.Entries.{AreRising, Row, has_row, same_row}
use Rattle.datasets.proofs.Members.{AllByRecursion-append, AllByRecursion-map, AllByRecursion-weaker, at-member}
use Rattle.datasets.proofs.RowLists.{AreRising-rows_of_either, AreRising-with_rows, has_row-with_rows}
use Rattle.datasets.proofs.Weights.{at-absent, at-present, there_if_weighed}
use Rattle.operators.specs.Laws.{NoneNegative}
use Rattle.operators.specs.Operators.{grouped, keys, with_levels}
use Rattle.operators.proofs.LevelOrder.{AreFalling-with_levels, Has-with_levels}
use Rattle.operators.proofs.Levels.{AllByRecursion-with_levels}
use Rattle.operators.proofs.SingleWeights.{AllByRecursion-has_row}
use Rattle.stability_laws.proofs.Between.{IsAboveZero, IsSound, between, cuts_sound, gaps_between}
use Rattle.stability_laws.proofs.Changed.{gap_at, gaps_le_changes, is_changed}
use Rattle.stability_laws.proofs.Cuts.{cut_total, cuts}
use Rattle.stability_laws.proofs.Gathers.{total-given}
use Rattle.stability_laws.proofs.Groups.{AreRising-keys, at-grouped-covered, gives_above}

-- ---- lists

front_of : (P : Ratio → Type 0) (f : Row → Ratio) (xs : List Row) (qs : List Ratio) → AllByRecursion P (map f xs ++ qs) → AllByRecursion (λ x. P (f x)) xs
front_of P f [] qs h = tt
front_of P f (x ∷ xs) qs h = (h.0, front_of P f xs qs h.1)

back_of : (P : Ratio → Type 0) (f : Row → Ratio) (ps : List Ratio) (xs : List Row) → AllByRecursion P (ps ++ map f xs) → AllByRecursion (λ x. P (f x)) xs
back_of P f [] [] h = tt
back_of P f [] (x ∷ xs) h = (h.0, back_of P f [] xs h.1)
back_of P f (p ∷ ps) xs h = back_of P f ps xs h.1

-- ---- weights above 0

above_zero : {q : Ratio} → zero_ratio ⊑ q → q ≢ zero_ratio → IsAboveZero q
above_zero {q} h weighed = false_from_ne_true _ (λ e. weighed (le_antisym (le_from q zero_ratio e) h))

weights_above_zero : (A : Dataset) → NoneNegative A → AllByRecursion IsAboveZero (map (at A) (rows A))
weights_above_zero A h = AllByRecursion-map IsAboveZero (at A) (rows A) (AllByRecursion-has_row (λ x. IsAboveZero (at A x)) (rows A) (λ x there. above_zero (le_from zero_ratio (at A x) (h x)) (at-present A x there)))

module _ (key : Row → Row) (reduce : List Row → Atom) (A B : Dataset) (hA : NoneNegative A) (hB : NoneNegative B) where
  -- ---- the thresholds: the weights of both

  abbrev weights : List Ratio
  weights = map (at A) (rows A) ++ map (at B) (rows B)

  abbrev ts : List Ratio
  ts = with_levels weights

  falls : AreFalling ts
  falls = AreFalling-with_levels weights

  above : AllByRecursion IsAboveZero ts
  above = AllByRecursion-with_levels IsAboveZero weights (AllByRecursion-append IsAboveZero (map (at A) (rows A)) (map (at B) (rows B)) (weights_above_zero A hA) (weights_above_zero B hB))

  among_A : (x : Row) → at A x ≢ zero_ratio → Has ts (at A x)
  among_A x weighed = at-member (λ x. Has ts (at A x)) (rows A) x (front_of (Has ts) (at A) (rows A) (map (at B) (rows B)) (Has-with_levels weights)) (there_if_weighed A x weighed)

  among_B : (x : Row) → at B x ≢ zero_ratio → Has ts (at B x)
  among_B x weighed = at-member (λ x. Has ts (at B x)) (rows B) x (back_of (Has ts) (at B) (map (at A) (rows A)) (rows B) (Has-with_levels weights)) (there_if_weighed B x weighed)

  -- each weight is 0 or a threshold
  marked : (C : Dataset) → ((x : Row) → at C x ≢ zero_ratio → Has ts (at C x)) → (x : Row) → (at C x ≡ zero_ratio) ⊎ Has ts (at C x)
  marked C among x = elim (has_row (rows C) x) as (λ b. has_row (rows C) x ≡ b → (at C x ≡ zero_ratio) ⊎ Has ts (at C x)) [ true ↦ λ there. inr (among x (at-present C x there)) | false ↦ λ absent. inl (at-absent C x absent) ] refl

  -- ---- the keys of both

  abbrev ks : List Row
  ks = with_rows (keys key A) (keys key B)

  rising_ks : AreRising ks
  rising_ks = AreRising-with_rows (keys key A) (keys key B) (AreRising-keys key B)

  in_neither : (k : Row) → has_row ks k ≡ false → (has_row (keys key A) k ≡ false) × (has_row (keys key B) k ≡ false)
  in_neither k h = or_parts (has_row (keys key A) k) (has_row (keys key B) k) (sym (has_row-with_rows (keys key A) (keys key B) k) ∙ h)

  -- ---- the distance

  abbrev zs : List Row
  zs = rows_of_either (grouped key reduce A) (grouped key reduce B)

  abbrev xs : List Row
  xs = rows_of_either A B

  abbrev gap : Row → Ratio × Ratio → Row → Ratio
  gap k c z = gap_at key A B reduce k c z

  abbrev change : Row → Ratio × Ratio → Row → Ratio
  change k c x = only (is_changed key A B k c.0 x) (ratio_add c.1 c.1)

  abbrev sum_A : Row → Row → Ratio
  sum_A z k = cut_total (gives_above key reduce A k z) ts

  abbrev sum_B : Row → Row → Ratio
  sum_B z k = cut_total (gives_above key reduce B k z) ts

  -- at an output row, by keys and thresholds
  at_row : (z : Row) → apart (grouped key reduce A) (grouped key reduce B) z ⊑ total (λ k. total (λ c. gap k c z) (cuts ts)) ks
  at_row z =
      same_then (ap₂ (λ p q. ratio_abs (ratio_sub p q)) (at-grouped-covered key reduce A ts falls above among_A ks rising_ks (λ k h. (in_neither k h).0) z) (at-grouped-covered key reduce B ts falls above among_B ks rising_ks (λ k h. (in_neither k h).1) z))
      (le_trans (total-apart (sum_A z) (sum_B z) ks)
      (total-le (λ k. ratio_abs (ratio_sub (sum_A z k) (sum_B z k))) (λ k. total (λ c. gap k c z) (cuts ts)) ks
      (λ k. total-apart (λ c. only (gives_above key reduce A k z c.0) c.1) (λ c. only (gives_above key reduce B k z c.0) c.1) (cuts ts))))

  -- the output rows last
  gaps_turned : total (λ z. total (λ k. total (λ c. gap k c z) (cuts ts)) ks) zs ≡ total (λ k. total (λ c. total (gap k c) zs) (cuts ts)) ks
  gaps_turned =
      total-swap (λ z k. total (λ c. gap k c z) (cuts ts)) zs ks
      ∙ total-same (λ k. total (λ z. total (λ c. gap k c z) (cuts ts)) zs) (λ k. total (λ c. total (gap k c) zs) (cuts ts)) ks (λ k. total-swap (λ z c. gap k c z) zs (cuts ts))

  -- at a key and a threshold, by the rows of either input
  gaps_changed : total (λ k. total (λ c. total (gap k c) zs) (cuts ts)) ks ⊑ total (λ k. total (λ c. total (change k c) xs) (cuts ts)) ks
  gaps_changed =
      total-le (λ k. total (λ c. total (gap k c) zs) (cuts ts)) (λ k. total (λ c. total (change k c) xs) (cuts ts)) ks
      (λ k. total-le_all (λ c. total (gap k c) zs) (λ c. total (change k c) xs) (cuts ts)
      (AllByRecursion-weaker IsSound (λ c. total (gap k c) zs ⊑ total (change k c) xs) (cuts ts) (λ c sound. gaps_le_changes key A B reduce k c zs sound (AreRising-rows_of_either (grouped key reduce A) (grouped key reduce B))) (cuts_sound ts falls above)))

  -- the rows of either input first
  changes_turned : total (λ k. total (λ c. total (change k c) xs) (cuts ts)) ks ≡ total (λ x. total (λ k. total (λ c. change k c x) (cuts ts)) ks) xs
  changes_turned =
      total-same (λ k. total (λ c. total (change k c) xs) (cuts ts)) (λ k. total (λ x. total (λ c. change k c x) (cuts ts)) xs) ks (λ k. total-swap (λ c x. change k c x) (cuts ts) xs)
      ∙ total-swap (λ k x. total (λ c. change k c x) (cuts ts)) ks xs

  -- at a row and a key, the gaps between the row's two weights
  change_at_key : (x k : Row) → total (λ c. change k c x) (cuts ts) ≡ only (same_row k (key x)) (apart A B x)
  change_at_key x k =
      let inner : Ratio × Ratio → Ratio = λ c. only (between (at A x) (at B x) c.0) (ratio_add c.1 c.1) in
      total-same (λ c. change k c x) (λ c. only (same_row k (key x)) (inner c)) (cuts ts) (λ c. only_both (same_row k (key x)) (between (at A x) (at B x) c.0) (ratio_add c.1 c.1))
      ∙ total-only (same_row k (key x)) inner (cuts ts)
      ∙ ap (only (same_row k (key x))) (gaps_between ts falls above (at A x) (at B x) (le_from zero_ratio (at A x) (hA x)) (le_from zero_ratio (at B x) (hB x)) (marked A among_A x) (marked B among_B x))

  changes_of_row : (x : Row) → total (λ k. total (λ c. change k c x) (cuts ts)) ks ⊑ apart A B x
  changes_of_row x =
      same_then (total-same (λ k. total (λ c. change k c x) (cuts ts)) (λ k. only (same_row k (key x)) (apart A B x)) ks (change_at_key x))
      (total-given (key x) (apart A B x) ks rising_ks (abs_nonneg (ratio_sub (at A x) (at B x))))

  pub group_stable : dist (grouped key reduce A) (grouped key reduce B) ⊑ dist A B
  group_stable =
      le_trans (total-le (apart (grouped key reduce A) (grouped key reduce B)) (λ z. total (λ k. total (λ c. gap k c z) (cuts ts)) ks) zs at_row)
      (same_then gaps_turned
      (le_trans (le_then gaps_changed changes_turned)
      (total-le (λ x. total (λ k. total (λ c. change k c x) (cuts ts)) ks) (apart A B) xs changes_of_row)))
