-- The laws of Many.
use Rattle.std.specs.Prelude.{◌≡◌, ◌↔◌, ℕ, pos, Bool, true, false, ◌&&◌, not, cond, filter, flat_map, List, [], ◌∷◌, map, refl}
use Rattle.std.specs.List.{list_all}
use Rattle.std.proofs.Common.{sym, ap, subst, ◌∙◌}
use Rattle.std.proofs.lemmas.Bool.{and_from, and_parts, or_parts}
use Rattle.std.proofs.lemmas.List.Folds.{list_all-map, list_any-append}
use Rattle.ratios.specs.Range.{InRange, all_in_range, in_range}
use Rattle.ratios.specs.Ratio.{Ratio, ratio, ratio_add, ratio_mul, zero_ratio}
use Rattle.ratios.specs.Sums.{ratio_sum, runs_in_range}
use Rattle.ratios.proofs.Additive.{ratio_zero_add}
use Rattle.ratios.proofs.Products.{ratio_mul_zero, ratio_of_none, ratio_zero_mul}
use Rattle.ratios.proofs.SumLaws.{ratio_sum-cons}
use Rattle.datasets.specs.Dataset.{Dataset, at, rows}
use Rattle.datasets.specs.Entries.{Row, has_row, is_zero, same_row}
use Rattle.datasets.specs.Kept.{is_zero-zero_ratio}
use Rattle.datasets.proofs.Rows.{same_row-itself, zero_if_is_zero}
use Rattle.datasets.proofs.Weights.{at-absent, at-empty}
use Rattle.datasets.proofs.RowLists.{has_row-filter}
use Rattle.datasets.proofs.Members.{at-member}
use Rattle.operators.specs.InRange.{made_rows, many_in_range, products}
use Rattle.operators.specs.Operators.{Giving, applying, divisor, factor, spread, weight_of}
use Rattle.operators.proofs.Shares.{at-spread}
use Rattle.operators.proofs.Tabulated.{at-tabulated-everywhere}
use Rattle.plan_model.specs.Evaluation.{giving}
use Rattle.weighted_set.specs.Held.{AllInRange}
use Rattle.weighted_set.specs.Parts.{FactoredInRange, part_of}
use Rattle.weighted_set.specs.declared.part_op.Side.TheVariants.{Left, Right}
use Rattle.weighted_set.proofs.Parts.{FactoredInRange-ones}
use Rattle.weighted_set.proofs.Sets.{InRange-zero}
use Rattle.op_parts.proofs.Members.{AllByRecursion-from_list_all, list_all-everywhere}
use Rattle.op_parts.proofs.OneRows.{at-one_row}
use Rattle.op_parts.proofs.PartEntries.{weights-part_of}
use Rattle.op_parts.proofs.Ranges.{AllInRange-tested, weights_in_range-all}
use Rattle.operators.specs.Keys.{shares}
use Rattle.op_linear.specs.Many.{ManyParts, many_fits, many_keys}
use Rattle.op_linear.specs.Summed.{summed, sums_in_range, weights}
use Rattle.op_linear.specs.Sums.{sum_in_range}

-- ---- the rows that items make of a row

-- the rows that items make of y
abbrev made : Row → List Giving → List Row
made y is = map (λ i. i.row y) is

none_give : (y z : Row) (is : List Giving) → has_row (made y is) z ≡ false → filter (λ i. same_row z (i.row y)) is ≡ []
none_give y z [] h = refl
none_give y z (i ∷ is) h =
    let p = or_parts (same_row z (i.row y)) (has_row (made y is) z) h in
    let rest = filter (λ (i : Giving). same_row z (i.row y)) is in
    ap (λ b. cond b (i ∷ rest) rest) p.0 ∙ none_give y z is p.1

factor-absent : (over : ℕ) (items : List Giving) (y z : Row) → has_row (made y (applying items y)) z ≡ false → factor over items y z ≡ zero_ratio
factor-absent over items y z h =
    ap (λ is. ratio (pos (weight_of is)) (pos (divisor over items y))) (none_give y z (applying items y) h) ∙ ratio_of_none (divisor over items y)

-- the weight of a row among those that items make of y is its factor
pub at-shares : (over : ℕ) (items : List Giving) (y z : Row) → at (shares over items y) z ≡ factor over items y z
at-shares over items y z = at-tabulated-everywhere (factor over items y) (made y (applying items y)) (factor-absent over items y) z

-- ---- the products at an output row

module _ (over : ℕ) (items : List Giving) (A : Dataset) where
  -- the row y has a factor at z
  abbrev gives : Row → Row → Bool
  gives z y = not (is_zero (factor over items y z))

  -- the weight of y times that factor
  abbrev product : Row → Row → Ratio
  product z y = ratio_mul (at A y) (factor over items y z)

  product-none : (z y : Row) → factor over items y z ≡ zero_ratio → product z y ≡ zero_ratio
  product-none z y none = ap (ratio_mul (at A y)) none ∙ ratio_mul_zero (at A y)

  -- the products that are left out are 0
  sum_of_products : (z : Row) (ys : List Row) → ratio_sum (map (product z) ys) ≡ ratio_sum (map (product z) (filter (gives z) ys))
  sum_of_products z [] = refl
  sum_of_products z (y ∷ ys) =
      ratio_sum-cons (product z y) (map (product z) ys)
      ∙ ap (ratio_add (product z y)) (sum_of_products z ys)
      ∙ one_more (is_zero (factor over items y z)) (zero_if_is_zero (factor over items y z))
    where
      one_more : (b : Bool) → (b ≡ true → factor over items y z ≡ zero_ratio) →
          ratio_add (product z y) (ratio_sum (map (product z) (filter (gives z) ys))) ≡ ratio_sum (map (product z) (cond (not b) (y ∷ filter (gives z) ys) (filter (gives z) ys)))
      one_more true none =
          ap (λ q. ratio_add q (ratio_sum (map (product z) (filter (gives z) ys)))) (product-none z y (none refl)) ∙ ratio_zero_add (ratio_sum (map (product z) (filter (gives z) ys)))
      one_more false none = sym (ratio_sum-cons (product z y) (map (product z) (filter (gives z) ys)))

  pub at-spread_products : (z : Row) → at (spread over items A) z ≡ ratio_sum (products over items A z)
  at-spread_products z = at-spread over items A z ∙ sum_of_products z (rows A)

  -- no row gives what is not among the rows that are made
  none_gives : (z : Row) (ys : List Row) → has_row (flat_map (λ y. made y (applying items y)) ys) z ≡ false → filter (gives z) ys ≡ []
  none_gives z [] h = refl
  none_gives z (y ∷ ys) h =
      let here = made y (applying items y) in
      let later = flat_map (λ y. made y (applying items y)) ys in
      let p = or_parts (has_row here z) (has_row later z) (sym (list_any-append (same_row z) here later) ∙ h) in
      let none : gives z y ≡ false = ap (λ w. not (is_zero w)) (factor-absent over items y z p.0) ∙ ap not is_zero-zero_ratio in
      ap (λ b. cond b (y ∷ filter (gives z) ys) (filter (gives z) ys)) none ∙ none_gives z ys p.1

  -- what the products at each output row pass, those at every row do
  pub products-tested : (test : List Ratio → Bool) → test [] ≡ true → list_all (λ z. test (products over items A z)) (made_rows items A) ≡ true → (z : Row) → test (products over items A z) ≡ true
  products-tested test none h z = here (has_row (made_rows items A) z) (none_gives z (rows A)) found
    where
      found : has_row (made_rows items A) z ≡ true → test (products over items A z) ≡ true
      found = at-member (λ z. test (products over items A z) ≡ true) (made_rows items A) z (AllByRecursion-from_list_all (λ z. test (products over items A z)) (made_rows items A) h)

      here : (b : Bool) → (b ≡ false → filter (gives z) (rows A) ≡ []) → (b ≡ true → test (products over items A z) ≡ true) → test (products over items A z) ≡ true
      here true absent there = there refl
      here false absent there = ap (λ ys. test (map (product z) ys)) (absent refl) ∙ none

  -- each product is in range where those at the row are
  pub product-in_range : (z y : Row) → all_in_range (products over items A z) ≡ true → InRange (product z y)
  product-in_range z y h = here (has_row (rows A) y) (is_zero (factor over items y z)) (at-absent A y) (zero_if_is_zero (factor over items y z)) found
    where
      each : list_all (λ y. in_range (product z y)) (filter (gives z) (rows A)) ≡ true
      each = sym (list_all-map in_range (product z) (filter (gives z) (rows A))) ∙ h

      found : has_row (rows A) y ≡ true → is_zero (factor over items y z) ≡ false → InRange (product z y)
      found there some =
          at-member (λ y. InRange (product z y)) (filter (gives z) (rows A)) y (AllByRecursion-from_list_all (λ y. in_range (product z y)) (filter (gives z) (rows A)) each)
          (has_row-filter (gives z) (rows A) y ∙ and_from (gives z y) (has_row (rows A) y) (ap not some) there)

      here : (b c : Bool) → (b ≡ false → at A y ≡ zero_ratio) → (c ≡ true → factor over items y z ≡ zero_ratio) → (b ≡ true → c ≡ false → InRange (product z y)) → InRange (product z y)
      here true true absent none there = subst InRange (sym (product-none z y (none refl))) InRange-zero
      here true false absent none there = there refl refl
      here false c absent none there =
          subst InRange (sym (ap (λ w. ratio_mul w (factor over items y z)) (absent refl) ∙ ratio_zero_mul (factor over items y z))) InRange-zero

  pub products-in_range : (z : Row) → ((y : Row) → InRange (product z y)) → all_in_range (products over items A z) ≡ true
  products-in_range z h = list_all-map in_range (product z) (filter (gives z) (rows A)) ∙ list_all-everywhere (λ y. in_range (product z y)) (filter (gives z) (rows A)) h

-- ---- the laws

module _ (op : ManyParts) (A : Dataset) where
  abbrev at_row : Row → List Ratio
  at_row z = products op.over (giving op.items) A z

  -- the weights of a part are the products at its key
  weights-products : (z : Row) → weights (part_of (many_keys op Left) z A) ≡ at_row z
  weights-products z =
      let share : (x : Row) → at (shares op.over (giving op.items) x) z ≡ factor op.over (giving op.items) x z = λ x. at-shares op.over (giving op.items) x z in
      weights-part_of (many_keys op Left) z A
      ∙ (λ i. map (λ x. ratio_mul (at A x) (share x i)) (filter (λ x. not (is_zero (share x i))) (rows A)))

  pub many_together : (z : Row) → at (spread op.over (giving op.items) A) z ≡ at (summed z (part_of (many_keys op Left) z A)) z
  many_together z =
      let sum = ratio_sum (weights (part_of (many_keys op Left) z A)) in
      at-spread_products op.over (giving op.items) A z
      ∙ ap ratio_sum (sym (weights-products z))
      ∙ sym (at-one_row z sum z ∙ ap (λ b. cond b sum zero_ratio) (same_row-itself z))

  -- the products and the running sums at every row
  abbrev AreInRange : Type 0
  AreInRange = (z : Row) → (all_in_range (at_row z) && runs_in_range (at_row z)) ≡ true

  factored-in_range : AreInRange → FactoredInRange (many_keys op Left) A
  factored-in_range h x k =
      subst (λ w. InRange (ratio_mul (at A x) w)) (sym (at-shares op.over (giving op.items) x k)) (product-in_range op.over (giving op.items) A k x (and_parts _ _ (h k)).0)

  parts-in_range : AreInRange → (k : Row) → sums_in_range (part_of (many_keys op Left) k A) ≡ true
  parts-in_range h k = ap runs_in_range (weights-products k) ∙ (and_parts (all_in_range (at_row k)) _ (h k)).1

  both-in_range : FactoredInRange (many_keys op Left) A → ((k : Row) → sums_in_range (part_of (many_keys op Left) k A) ≡ true) → AreInRange
  both-in_range factored parts z =
      and_from (all_in_range (at_row z)) (runs_in_range (at_row z))
      (products-in_range op.over (giving op.items) A z (λ y. subst (λ w. InRange (ratio_mul (at A y) w)) (at-shares op.over (giving op.items) y z) (factored y z)))
      (sym (ap runs_in_range (weights-products z)) ∙ parts z)

  many_fits-from : AreInRange → many_fits op A ≡ true
  many_fits-from h =
      and_from (many_in_range op.over (giving op.items) A) _ (list_all-everywhere (λ z. all_in_range (at_row z) && runs_in_range (at_row z)) (made_rows (giving op.items) A) h)
      (weights_in_range-all (spread op.over (giving op.items) A) (λ z.
      subst InRange (sym (at-spread_products op.over (giving op.items) A z)) (sum_in_range (at_row z) (and_parts (all_in_range (at_row z)) _ (h z)).1)))

  in_range-from : many_fits op A ≡ true → AreInRange
  in_range-from fits = products-tested op.over (giving op.items) A (λ ws. all_in_range ws && runs_in_range ws) refl (and_parts (many_in_range op.over (giving op.items) A) _ fits).0

  pub many_fits_by_part : (B : Dataset) → AllInRange A → AllInRange B →
      (many_fits op A ≡ true) ↔
      (FactoredInRange (many_keys op Left) A × FactoredInRange (many_keys op Right) B × ((k : Row) → sums_in_range (part_of (many_keys op Left) k A) ≡ true))
  many_fits_by_part B a b = (
    λ fits. (factored-in_range (in_range-from fits), FactoredInRange-ones (many_keys op Right) (λ x k h. absurd (h (at-empty k))) InRange-zero B b, parts-in_range (in_range-from fits)),
    λ h. many_fits-from (both-in_range h.0 h.2),
  )

  pub many_output_in_range : many_fits op A ≡ true → AllInRange (spread op.over (giving op.items) A)
  many_output_in_range fits = AllInRange-tested (spread op.over (giving op.items) A) (and_parts (many_in_range op.over (giving op.items) A) _ fits).1
