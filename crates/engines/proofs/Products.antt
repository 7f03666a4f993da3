-- New weights times the factors of their rows' keys, which are in range just where the factored weights are.
use Rattle.std.specs.Prelude.{◌≡◌, ℕ, ◌+◌, ◌<◌, Bool, true, false, cond, ◌&&◌, List, [], ◌∷◌, length, take, refl}
use Rattle.std.specs.List.{AllByRecursion, list_all}
use Rattle.std.proofs.Common.{sym, ap, ap₂, subst, ◌∙◌, get_or}
use Rattle.std.proofs.lemmas.Bool.{and_parts}
use Rattle.std.proofs.lemmas.List.Elements.{recursion_from_All}
use Rattle.std.proofs.lemmas.List.Folds.{list_all-map, list_all_at, list_all_more}
use Rattle.ratios.specs.Range.{InRange, in_range}
use Rattle.ratios.specs.Ratio.{Ratio, ratio_mul}
use Rattle.ratios.proofs.Products.{ratio_mul_zero}
use Rattle.datasets.specs.Dataset.{Dataset, at, set_at}
use Rattle.datasets.specs.Entries.{Entries, Row, same_row, weight_in}
use Rattle.datasets.proofs.Rows.{same_row-equal}
use Rattle.datasets.proofs.Weights.{at-set_at, weight_in-cons}
use Rattle.weighted_set.specs.declared.weighted.Change.{Change}
use Rattle.weighted_set.specs.declared.weighted.Weighted.{Weighted}
use Rattle.weighted_set.specs.Changes.{IsChangeList, applied, entries_of}
use Rattle.weighted_set.specs.Parts.{FactoredInRange}
use Rattle.weighted_set.proofs.Parts.{entries_have_weights}
use Rattle.weighted_set.proofs.Sets.{InRange-zero}
use Rattle.engines.specs.Products.{changes_in_range, products_in_range}

-- ---- a test of each member, member by member
pub tests_more : {X : Type 0} (test : X → Bool) (xs : List X) (i : ℕ) (x : X) → i < length xs → x ≡ get_or xs i x → list_all test (take i xs) ≡ true → test x ≡ true → list_all test (take (i + 1) xs) ≡ true
tests_more test xs i x h is so_far here = list_all_more test xs i x h ∙ ap₂ (λ a b. a && b) so_far (ap test (sym is) ∙ here)

pub test_out : {X : Type 0} (test : X → Bool) (xs : List X) (i : ℕ) (x : X) → i < length xs → x ≡ get_or xs i x → test x ≡ false → list_all test xs ≡ false
test_out test xs i x h is out = list_all_at test xs i x h (ap test (sym is) ∙ out)

-- the products of a weight and listed factors
products_of : (w : Ratio) (ks : List Weighted) → products_in_range w (entries_of ks) ≡ list_all (λ (k : Weighted). in_range (ratio_mul w k.weight)) ks
products_of w ks = list_all-map (λ (e : Row × Ratio). in_range (ratio_mul w e.1)) (λ (k : Weighted). (k.row, k.weight)) ks

pub products_more : (w : Ratio) (ks : List Weighted) (i : ℕ) (e : Weighted) → i < length ks → e ≡ get_or ks i e → products_in_range w (entries_of (take i ks)) ≡ true → InRange (ratio_mul w e.weight) → products_in_range w (entries_of (take (i + 1) ks)) ≡ true
products_more w ks i e h is so_far here =
    products_of w (take (i + 1) ks) ∙ tests_more (λ (k : Weighted). in_range (ratio_mul w k.weight)) ks i e h is (sym (products_of w (take i ks)) ∙ so_far) here

pub product_out : (w : Ratio) (ks : List Weighted) (i : ℕ) (e : Weighted) → i < length ks → e ≡ get_or ks i e → in_range (ratio_mul w e.weight) ≡ false → products_in_range w (entries_of ks) ≡ false
product_out w ks i e h is out = products_of w ks ∙ test_out (λ (k : Weighted). in_range (ratio_mul w k.weight)) ks i e h is out

-- ---- the products of a weight and a row's factors
InRange-product : (w : Ratio) (es : Entries) (k : Row) → products_in_range w es ≡ true → InRange (ratio_mul w (weight_in es k))
InRange-product w [] k h = subst InRange (sym (ratio_mul_zero w)) InRange-zero
InRange-product w (e ∷ es) k h =
    let p = and_parts (in_range (ratio_mul w e.1)) (products_in_range w es) h in
    subst (λ f. InRange (ratio_mul w f)) (sym (weight_in-cons k e es))
    (elim (same_row k e.0) as (λ b. InRange (ratio_mul w (cond b e.1 (weight_in es k)))) [ true ↦ p.0 | false ↦ InRange-product w es k p.1 ])

products_of_entries : (w : Ratio) (fs es : Entries) → ((k : Row) → InRange (ratio_mul w (weight_in fs k))) → AllByRecursion (λ e. e.1 ≡ weight_in fs e.0) es → products_in_range w es ≡ true
products_of_entries w fs [] h own = refl
products_of_entries w fs (e ∷ es) h own = ap₂ (λ a b. a && b) (ap (λ f. in_range (ratio_mul w f)) own.0 ∙ h e.0) (products_of_entries w fs es h own.1)

-- ---- the products of changes
FactoredInRange-set_at : (keys : Row → Dataset) (x : Row) (w : Ratio) (A : Dataset) → products_in_range w (keys x).entries ≡ true → FactoredInRange keys A → FactoredInRange keys (set_at x w A)
FactoredInRange-set_at keys x w A products before y k =
    subst (λ v. InRange (ratio_mul v (at (keys y) k))) (sym (at-set_at x w A y)) (chosen (same_row y x) (same_row-equal y x))
  where
    chosen : (b : Bool) → (b ≡ true → y ≡ x) → InRange (ratio_mul (cond b w (at A y)) (at (keys y) k))
    chosen true same = subst (λ z. InRange (ratio_mul w (at (keys z) k))) (sym (same refl)) (InRange-product w (keys x).entries k products)
    chosen false same = before y k

-- factored weights stay in range where the products are
pub FactoredInRange-applied : (keys : Row → Dataset) (cs : List Change) (A : Dataset) → changes_in_range keys cs ≡ true → FactoredInRange keys A → FactoredInRange keys (applied A cs)
FactoredInRange-applied keys [] A h before = before
FactoredInRange-applied keys (c ∷ cs) A h before =
    let p = and_parts (products_in_range c.new (keys c.row).entries) (changes_in_range keys cs) h in
    FactoredInRange-applied keys cs (set_at c.row c.new A) p.1 (FactoredInRange-set_at keys c.row c.new A p.0 before)

products_of_changes : (keys : Row → Dataset) (C : Dataset) (cs : List Change) → FactoredInRange keys C → AllByRecursion (λ c. c.new ≡ at C c.row) cs → changes_in_range keys cs ≡ true
products_of_changes keys C [] factored news = refl
products_of_changes keys C (c ∷ cs) factored news =
    let own = entries_have_weights (keys c.row).entries (keys c.row).rising in
    let here : (k : Row) → InRange (ratio_mul c.new (at (keys c.row) k)) = λ k. subst (λ w. InRange (ratio_mul w (at (keys c.row) k))) (sym news.0) (factored c.row k) in
    ap₂ (λ a b. a && b) (products_of_entries c.new (keys c.row).entries (keys c.row).entries here own) (products_of_changes keys C cs factored news.1)

-- the products are in range where the factored weights after the changes are
pub changes_in_range-factored : (keys : Row → Dataset) (cs : List Change) (A C : Dataset) → IsChangeList cs A C → FactoredInRange keys C → changes_in_range keys cs ≡ true
changes_in_range-factored keys cs A C h factored = products_of_changes keys C cs factored (recursion_from_All (λ (c : Change). c.new ≡ at C c.row) cs (λ k d below. (h.each k d below).1))
