-- The output of a walk, with its tests, is that of the part.
use Rattle.std.specs.Prelude.{◌≡◌, Bool, true, false, ◌&&◌, ◌||◌, cond, filter, fold, List, [], ◌∷◌, ◌++◌, map, Some, None, refl}
use Rattle.std.specs.List.{AllByRecursion, list_all}
use Rattle.std.proofs.Common.{sym, ap, ap₂, subst, ◌∙◌, true≢false}
use Rattle.std.proofs.lemmas.Bool.{and_from, and_parts, or_parts}
use Rattle.std.proofs.lemmas.List.Folds.{list_all-map}
use Rattle.std.proofs.lemmas.Simd.{map-map}
use Rattle.ratios.specs.Range.{all_in_range, in_range}
use Rattle.ratios.specs.Ratio.{Ratio, ratio_half}
use Rattle.ratios.specs.Sums.{running_sums_after, runs_in_range}
use Rattle.record_text.specs.declared.atom.Atom.{Atom}
use Rattle.datasets.specs.Dataset.{Dataset, at, empty, running_weights, with_added}
use Rattle.datasets.specs.Entries.{Entries, Row, has_row, same_row}
use Rattle.datasets.proofs.Rows.{same_row-equal}
use Rattle.datasets.proofs.Weights.{at-empty}
use Rattle.operators.specs.Operators.{gap, levels, top}
use Rattle.operators.specs.Weights.{weights_at, weights_for}
use Rattle.operators.proofs.Gathered.{weights_for-map}
use Rattle.level_walks.specs.Levels.{checked_part, group_part, level_row, level_weight, part_in_range, part_terms}
use Rattle.level_walks.specs.Walks.{IsByWeight, walked, with_halves}
use Rattle.level_walks.proofs.Running.{gaps_in_range, half_entries, sums-all, sums-each, with_halves-checked}
use Rattle.level_walks.proofs.Walks.{atom_gaps-levels}

-- ---- tests of each member
pub each_passes : {X : Type 0} (test : X → Bool) (xs : List X) → list_all test xs ≡ true → AllByRecursion (λ x. test x ≡ true) xs
each_passes test [] h = tt
each_passes test (x ∷ xs) h = let p = and_parts (test x) (list_all test xs) h in (p.0, each_passes test xs p.1)

pub passes_weaker : {X : Type 0} (p q : X → Bool) (xs : List X) → ((x : X) → p x ≡ true → q x ≡ true) → list_all p xs ≡ true → list_all q xs ≡ true
passes_weaker p q [] f h = refl
passes_weaker p q (x ∷ xs) f h = let k = and_parts (p x) (list_all p xs) h in ap₂ (λ a b. a && b) (f x k.0) (passes_weaker p q xs f k.1)

same_truth : (a b : Bool) → (a ≡ true → b ≡ true) → (b ≡ true → a ≡ true) → a ≡ b
same_truth true b f g = sym (f refl)
same_truth false true f g = g refl
same_truth false false f g = refl

-- ---- members that give a row
no_terms : {X : Type 0} (row : X → Row) (weight : X → Ratio) (xs : List X) (z : Row) → has_row (map row xs) z ≡ false → weights_for row weight xs z ≡ []
no_terms row weight [] z h = refl
no_terms row weight (x ∷ xs) z h =
    let p = or_parts (same_row z (row x)) (has_row (map row xs) z) h in
    ap (λ b. map weight (cond b (x ∷ filter (λ x. same_row z (row x)) xs) (filter (λ x. same_row z (row x)) xs))) p.0 ∙ no_terms row weight xs z p.1

-- what holds at each member's row, and at rows that no member gives, holds everywhere
given_rows : {X : Type 0} (P : Row → Type 0) (row : X → Row) (xs : List X) (z : Row) → AllByRecursion (λ x. P (row x)) xs → has_row (map row xs) z ≡ true → P z
given_rows P row [] z h there = absurd (true≢false (sym there))
given_rows P row (x ∷ xs) z h there = split (same_row z (row x)) refl there (given_rows P row xs z h.1)
  where
    split : (b : Bool) → same_row z (row x) ≡ b → (b || has_row (map row xs) z) ≡ true → (has_row (map row xs) z ≡ true → P z) → P z
    split true e t later = subst P (sym (same_row-equal z (row x) e)) h.0
    split false e t later = later t

module _ (reduce : List Row → Atom) (k : Row) (P : Dataset) where
  abbrev row : Ratio → Row
  row t = level_row reduce k P t

  abbrev runs : Row → Bool
  runs z = runs_in_range (part_terms reduce k P z)

  abbrev entries : Entries
  entries = map (λ t. (row t, level_weight P t)) (levels P)

  -- each running sum is in range at every row
  pub runs-everywhere : part_in_range reduce k P ≡ true → (z : Row) → runs z ≡ true
  runs-everywhere h z = split (has_row (map row (levels P)) z) refl
    where
      at_levels : list_all (λ t. runs (row t)) (levels P) ≡ true
      at_levels = passes_weaker (λ t. in_range (gap P t) && in_range (level_weight P t) && runs (row t)) (λ t. runs (row t)) (levels P) (λ t p. (and_parts (in_range (gap P t) && in_range (level_weight P t)) (runs (row t)) p).1) h

      split : (b : Bool) → has_row (map row (levels P)) z ≡ b → runs z ≡ true
      split true there = given_rows (λ z. runs z ≡ true) row (levels P) z (each_passes (λ t. runs (row t)) (levels P) at_levels) there
      split false absent = ap runs_in_range (no_terms row (level_weight P) (levels P) z absent)

  abbrev gap_fits : Ratio → Bool
  gap_fits t = in_range (gap P t) && in_range (level_weight P t)

  gaps : part_in_range reduce k P ≡ true → list_all gap_fits (levels P) ≡ true
  gaps h =
      passes_weaker (λ t. in_range (gap P t) && in_range (level_weight P t) && runs (row t)) gap_fits (levels P)
      (λ t p. (and_parts (gap_fits t) (runs (row t)) p).0) h

  both : list_all gap_fits (levels P) ≡ true → ((z : Row) → runs z ≡ true) → part_in_range reduce k P ≡ true
  both g r =
      passes_weaker gap_fits (λ t. in_range (gap P t) && in_range (level_weight P t) && runs (row t)) (levels P)
      (λ t p. and_from (gap_fits t) (runs (row t)) p (r (row t))) g

  -- the sums while entries are added are the running sums
  sums_are : (z : Row) → all_in_range (running_sums_after (at empty z) (weights_at z entries)) ≡ runs z
  sums_are z =
      ap₂ (λ q ws. all_in_range (running_sums_after q ws)) (at-empty z) (weights_for-map (λ (e : Row × Ratio). e.0) (λ e. e.1) (λ t. (row t, level_weight P t)) (levels P) z)

  tests_are : (list_all gap_fits (levels P) && all_in_range (running_weights empty entries)) ≡ part_in_range reduce k P
  tests_are =
      same_truth _ _
      (λ h. let p = and_parts (list_all gap_fits (levels P)) (all_in_range (running_weights empty entries)) h in both p.0 (λ z. sym (sums_are z) ∙ sums-each empty entries p.1 z))
      (λ h. and_from (list_all gap_fits (levels P)) (all_in_range (running_weights empty entries)) (gaps h) (sums-all empty entries (λ z. sums_are z ∙ runs-everywhere h z)))

  abbrev level_gap : Ratio → Atom × Ratio
  level_gap t = (reduce (top P t), gap P t)

  levels-checked : with_halves k empty (map level_gap (levels P)) ≡ checked_part reduce k P
  levels-checked =
      let ds = map level_gap (levels P) in
      let es : half_entries k ds ≡ entries = map-map (λ (d : Atom × Ratio). (k ++ d.0 ∷ [], ratio_half d.1)) level_gap (levels P) in
      let gs : gaps_in_range ds ≡ list_all gap_fits (levels P) = list_all-map (λ (d : Atom × Ratio). in_range d.1 && in_range (ratio_half d.1)) level_gap (levels P) in
      with_halves-checked k empty ds
      ∙ ap₂ (λ g fs. cond (g && all_in_range (running_weights empty fs)) (Some (with_added empty fs)) None) gs es
      ∙ ap (λ b. cond b (Some (group_part reduce k P)) None) tests_are

pub walk-gives : {S : Type 0} (step : S → Row → S) (answer : S → Atom) (s0 : S) (reduce : List Row → Atom)
    (alike : (s : S) (x y : Row) → step (step s x) y ≡ step (step s y) x) (reduces : (xs : List Row) → reduce xs ≡ answer (fold step s0 xs))
    (k : Row) (P : Dataset) (es : Entries) (order : IsByWeight P.entries es) → walked step answer s0 k es ≡ checked_part reduce k P
walk-gives step answer s0 reduce alike reduces k P es order =
    ap (with_halves k empty) (atom_gaps-levels step answer s0 reduce alike reduces P es order) ∙ levels-checked reduce k P
