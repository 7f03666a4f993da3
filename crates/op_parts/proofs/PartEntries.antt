-- The entries of a part: the rows with a factor at its key, in row order.
use Rattle.std.specs.Prelude.{◌≡◌, ◌≢◌, ◌*◌, ◌<◌, ℤ, ◌*ℤ◌, Bool, true, false, cond, filter, not, [], ◌∷◌, map, pos, unsigned_abs, refl}
use Rattle.std.specs.List.{AllByRecursion}
use Rattle.std.proofs.Common.{sym, ap, ap₂, subst, ◌∙◌, arith, mul-pos}
use Rattle.std.proofs.lemmas.Int.{ints, unsigned_abs-mul}
use Rattle.std.proofs.lemmas.Simd.{map-map}
use Rattle.ratios.specs.Ratio.{Ratio, ratio_mul, zero_ratio}
use Rattle.ratios.proofs.Crossing.{num_not_zero}
use Rattle.ratios.proofs.Over.{IsOver, over_itself, over_mul, same_numerator}
use Rattle.ratios.proofs.Products.{ratio_mul_zero}
use Rattle.ratios.proofs.Parts.{over_zero}
use Rattle.datasets.specs.Dataset.{Dataset, at, rows}
use Rattle.datasets.specs.Entries.{AreRising, Entries, NoneZero, Row, is_zero, rows_of}
use Rattle.datasets.specs.Kept.{is_zero-zero_ratio}
use Rattle.datasets.proofs.Counts.{entries-dataset_of, weighing}
use Rattle.datasets.proofs.Rows.{is_zero-other, other_if_not_is_zero, zero_if_is_zero}
use Rattle.weighted_set.specs.Parts.{part_of}
use Rattle.weighted_set.proofs.Parts.{entries_have_weights}

-- ---- products that are 0

pub product_other : (q r : Ratio) → q ≢ zero_ratio → r ≢ zero_ratio → ratio_mul q r ≢ zero_ratio
product_other q r h k e =
    let d = q.den * r.den in
    let over : IsOver (q.num *ℤ r.num) d zero_ratio = subst (IsOver (q.num *ℤ r.num) d) e (over_mul q.num r.num q.den r.den q r (over_itself q) (over_itself r)) in
    let none : q.num *ℤ r.num ≡ pos 0 = same_numerator (q.num *ℤ r.num) (pos 0) d zero_ratio over (over_zero d (mul-pos q.positive r.positive)) in
    let product : unsigned_abs q.num * unsigned_abs r.num ≡ 0 = sym (unsigned_abs-mul q.num r.num) ∙ ap unsigned_abs none in
    let first : 0 < unsigned_abs q.num = positive q.num (num_not_zero q h) in
    let second : 0 < unsigned_abs r.num = positive r.num (num_not_zero r k) in
    let both = mul-pos first second in
    omega arith
  where
    positive : (n : ℤ) → n ≢ pos 0 → 0 < unsigned_abs n
    positive n h = omega (arith, ints)

-- a product with a number other than 0 is 0 just where the other factor is
pub is_zero-ratio_mul : (q r : Ratio) → q ≢ zero_ratio → is_zero (ratio_mul q r) ≡ is_zero r
is_zero-ratio_mul q r h =
    elim (is_zero r) as (λ b. is_zero r ≡ b → is_zero (ratio_mul q r) ≡ b) [
      | true ↦ λ p. ap is_zero (ap (ratio_mul q) (zero_if_is_zero r p) ∙ ratio_mul_zero q) ∙ is_zero-zero_ratio
      | false ↦ λ p. is_zero-other (ratio_mul q r) (product_other q r h (other_if_not_is_zero r p))
    ] refl

-- ---- parts

module _ (keys : Row → Dataset) (k : Row) (A : Dataset) where
  abbrev factored : Row × Ratio → Row × Ratio
  factored e = (e.0, ratio_mul e.1 (at (keys e.0) k))

  -- the row has a factor at the key
  abbrev belongs : Row → Bool
  belongs x = not (is_zero (at (keys x) k))

  -- the row's weight times its factor
  abbrev share : Row → Ratio
  share x = ratio_mul (at A x) (at (keys x) k)

  abbrev entry : Row → Row × Ratio
  entry x = (x, share x)

  rows_of-factored : (es : Entries) → rows_of (map factored es) ≡ rows_of es
  rows_of-factored [] = refl
  rows_of-factored (e ∷ es) = ap (λ xs. e.0 ∷ xs) (rows_of-factored es)

  kept_entries : (es : Entries) → NoneZero es → AllByRecursion (λ e. e.1 ≡ at A e.0) es → weighing (map factored es) ≡ map entry (filter belongs (rows_of es))
  kept_entries [] n h = refl
  kept_entries (e ∷ es) n h =
      let rest = weighing (map factored es) in
      ap (λ b. cond (not b) (factored e ∷ rest) rest) (is_zero-ratio_mul e.1 (at (keys e.0) k) n.0)
      ∙ elim (belongs e.0) as (λ b. cond b (factored e ∷ rest) rest ≡ map entry (cond b (e.0 ∷ filter belongs (rows_of es)) (filter belongs (rows_of es)))) [
        | true ↦ ap₂ (λ w fs. (e.0, ratio_mul w (at (keys e.0) k)) ∷ fs) h.0 (kept_entries es n.1 h.1)
        | false ↦ kept_entries es n.1 h.1
      ]

  pub entries-part_of : (part_of keys k A).entries ≡ map entry (filter belongs (rows A))
  entries-part_of =
      entries-dataset_of (map factored A.entries) (subst AreRising (sym (rows_of-factored A.entries)) A.rising)
      ∙ kept_entries A.entries A.none_zero (entries_have_weights A.entries A.rising)

  -- the weights of a part: those of the rows with a factor, times it
  pub weights-part_of : map (λ e. e.1) (part_of keys k A).entries ≡ map share (filter belongs (rows A))
  weights-part_of = ap (map (λ (e : Row × Ratio). e.1)) entries-part_of ∙ map-map (λ (e : Row × Ratio). e.1) entry (filter belongs (rows A))
