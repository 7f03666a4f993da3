-- Where no weight of an operator's output is below 0.
use Rattle.std.specs.Prelude.{◌≡◌, ℕ, pos, Bool, true, false, cond, ◌⊎◌, filter, List, [], ◌∷◌}
use Rattle.std.specs.List.{AllByRecursion}
use Rattle.std.proofs.Common.{inl, inr, sym}
use Rattle.ratios.specs.Ratio.{Ratio, is_below, ratio, ratio_add, ratio_max, ratio_min, ratio_mul, zero_ratio}
use Rattle.ratios.proofs.Additive.{ratio_add_zero}
use Rattle.ratios.proofs.AtMost.{at_most_if_below, ratio_max_itself, ratio_min_itself}
use Rattle.ratios.proofs.Field.{add_nonneg, le_from, le_refl, le_then, max_nonneg, min_nonneg, mul_nonneg, sub_nonneg}
use Rattle.ratios.proofs.Halves.{half_nonneg}
use Rattle.ratios.proofs.Linear.{◌⊑◌}
use Rattle.ratios.proofs.Quotients.{div_nonneg, ratio_nonneg}
use Rattle.ratios.proofs.Totals.{total-nonneg_all}
use Rattle.record_text.specs.declared.atom.Atom.{Atom}
use Rattle.datasets.specs.Dataset.{Dataset, at, rows}
use Rattle.datasets.specs.Entries.{Row, same_row}
use Rattle.datasets.proofs.Distances.{norm-nonneg}
use Rattle.datasets.proofs.Members.{AllByRecursion-everywhere, AllByRecursion-filter, AllByRecursion-passing, AllByRecursion-weaker}
use Rattle.operators.specs.Weights.{gathered, pairs}
use Rattle.operators.specs.Operators.{Giving, applying, both_rows, cells, divisor, down_to, filtered, gap, group_row, grouped, half_gap, joined, joint_weight, key_levels, keys, levels, matches, numbered, part, piece, pointwise, selected, shaved, spread}
use Rattle.operators.specs.Laws.{NoneNegative}
use Rattle.operators.proofs.Gathered.{at-gathered}
use Rattle.operators.proofs.Levels.{AllByRecursion-levels}
use Rattle.operators.proofs.Members.{AllByRecursion-pairs}
use Rattle.operators.proofs.Tabulated.{at-filtered, at-pointwise}

-- a weight of a dataset without negative ones
at_nonneg : (A : Dataset) → NoneNegative A → (x : Row) → zero_ratio ⊑ at A x
at_nonneg A h x = le_from zero_ratio (at A x) (h x)

-- ---- members that weigh 0 or more

pub NoneNegative-gathered : {X : Type 0} (row : X → Row) (weight : X → Ratio) (xs : List X) → AllByRecursion (λ x. zero_ratio ⊑ weight x) xs → NoneNegative (gathered row weight xs)
NoneNegative-gathered row weight xs h z =
    let giving = filter (λ x. same_row z (row x)) xs in
    (le_then (total-nonneg_all weight giving (AllByRecursion-filter (λ x. zero_ratio ⊑ weight x) (λ x. same_row z (row x)) xs h)) (sym (at-gathered row weight xs z))).le

-- the same of members that all do
gathered_everywhere : {X : Type 0} (row : X → Row) (weight : X → Ratio) (xs : List X) → ((x : X) → zero_ratio ⊑ weight x) → NoneNegative (gathered row weight xs)
gathered_everywhere row weight xs h = NoneNegative-gathered row weight xs (AllByRecursion-everywhere (λ x. zero_ratio ⊑ weight x) xs h)

pub NoneNegative-selected : (f : Row → Row) (A : Dataset) → NoneNegative A → NoneNegative (selected f A)
NoneNegative-selected f A h = gathered_everywhere f (at A) (rows A) (at_nonneg A h)

pub NoneNegative-spread : (over : ℕ) (items : List Giving) (A : Dataset) → NoneNegative A → NoneNegative (spread over items A)
NoneNegative-spread over items A h =
    let share : Row × Giving → Ratio = λ p. ratio (pos p.1.weight) (pos (divisor over items p.0)) in
    gathered_everywhere (λ p. p.1.row p.0) (λ p. ratio_mul (at A p.0) (share p)) (pairs (rows A) (applying items))
    (λ p. mul_nonneg (at_nonneg A h p.0) (ratio_nonneg p.1.weight (divisor over items p.0)))

pub NoneNegative-shaved : (fs : List Ratio) (A : Dataset) → NoneNegative (shaved fs A)
NoneNegative-shaved fs A = gathered_everywhere numbered (λ p. piece fs (at A p.0) p.1) (cells fs A) (λ p. max_nonneg zero_ratio _ (inl (le_refl zero_ratio)))

pub NoneNegative-joined : (f g : Row → Row) (A B : Dataset) → NoneNegative A → NoneNegative B → NoneNegative (joined f g A B)
NoneNegative-joined f g A B h k =
    gathered_everywhere both_rows (joint_weight f g A B) (matches f g A B)
    (λ p. div_nonneg (mul_nonneg (at_nonneg A h p.0) (at_nonneg B k p.1)) (add_nonneg (norm-nonneg (part f (f p.0) A)) (norm-nonneg (part g (f p.0) B))))

-- ---- row by row

pub NoneNegative-filtered : (test : Row → Bool) (A : Dataset) → NoneNegative A → NoneNegative (filtered test A)
NoneNegative-filtered test A h z =
    (le_then (elim (test z) as (λ b. zero_ratio ⊑ cond b (at A z) zero_ratio) [ true ↦ at_nonneg A h z | false ↦ le_refl zero_ratio ]) (sym (at-filtered test A z))).le

pub NoneNegative-union : (A B : Dataset) → NoneNegative A ⊎ NoneNegative B → NoneNegative (pointwise ratio_max A B)
NoneNegative-union A B h z = (le_then (max_nonneg (at A z) (at B z) (at_row h)) (sym (at-pointwise ratio_max (ratio_max_itself zero_ratio) A B z))).le
  where
    at_row : NoneNegative A ⊎ NoneNegative B → (zero_ratio ⊑ at A z) ⊎ (zero_ratio ⊑ at B z)
    at_row (inl k) = inl (at_nonneg A k z)
    at_row (inr k) = inr (at_nonneg B k z)

pub NoneNegative-intersect : (A B : Dataset) → NoneNegative A → NoneNegative B → NoneNegative (pointwise ratio_min A B)
NoneNegative-intersect A B h k z = (le_then (min_nonneg (at_nonneg A h z) (at_nonneg B k z)) (sym (at-pointwise ratio_min (ratio_min_itself zero_ratio) A B z))).le

pub NoneNegative-concat : (A B : Dataset) → NoneNegative A → NoneNegative B → NoneNegative (pointwise ratio_add A B)
NoneNegative-concat A B h k z = (le_then (add_nonneg (at_nonneg A h z) (at_nonneg B k z)) (sym (at-pointwise ratio_add (ratio_add_zero zero_ratio) A B z))).le

-- ---- Group

down_to_nonneg : (t : Ratio) (us : List Ratio) → zero_ratio ⊑ t → AllByRecursion (λ u. u ⊑ t) us → zero_ratio ⊑ down_to t us
down_to_nonneg t [] h k = h
down_to_nonneg t (u ∷ us) h k = sub_nonneg k.0

pub gap_nonneg : (P : Dataset) (t : Ratio) → zero_ratio ⊑ t → zero_ratio ⊑ gap P t
gap_nonneg P t h =
    let lower = filter (λ u. is_below u t) (levels P) in
    down_to_nonneg t lower h (AllByRecursion-weaker (λ u. is_below u t ≡ true) (λ u. u ⊑ t) lower (λ u e. le_from u t (at_most_if_below u t e)) (AllByRecursion-passing (λ u. is_below u t) (levels P)))

pub NoneNegative-grouped : (key : Row → Row) (reduce : List Row → Atom) (A : Dataset) → NoneNegative A → NoneNegative (grouped key reduce A)
NoneNegative-grouped key reduce A h =
    let key_part : Row → Dataset = λ k. part key k A in
    NoneNegative-gathered (group_row key reduce A) (half_gap key A) (key_levels key A)
    (AllByRecursion-pairs (λ k. Unit {0}) (λ p. zero_ratio ⊑ half_gap key A p) (λ k. levels (key_part k)) (keys key A)
    (λ k any. AllByRecursion-weaker (λ t. zero_ratio ⊑ t) (λ t. zero_ratio ⊑ half_gap key A (k, t)) (levels (key_part k)) (λ t p. half_nonneg (gap_nonneg (key_part k) t p))
    (AllByRecursion-levels (λ t. zero_ratio ⊑ t) (key_part k) (at_nonneg (key_part k) (NoneNegative-filtered (λ x. same_row k (key x)) A h))))
    (AllByRecursion-everywhere (λ k. Unit {0}) (keys key A) (λ k. tt)))
