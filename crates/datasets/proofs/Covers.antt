-- Rows that cover datasets: over any that rise, sums over a dataset's rows, norms and distances are the same.
use Rattle.std.specs.Prelude.{◌≡◌, true, false, cond, List, [], ◌∷◌, refl}
use Rattle.std.specs.List.{AllByRecursion}
use Rattle.std.specs.List.Sorted.{IsStrictlySortedBy}
use Rattle.std.specs.declared.cmp.Ordering.TheVariants.{Less}
use Rattle.std.proofs.Common.{sym, ap, ◌∙◌}
use Rattle.std.proofs.lemmas.Bool.{or_parts}
use Rattle.ratios.specs.Ratio.{Ratio, ratio_abs, zero_ratio}
use Rattle.ratios.proofs.Additive.{abs_sub_same, ratio_abs_zero}
use Rattle.ratios.proofs.Totals.{total, total-map, total-same_all}
use Rattle.record_text.specs.Order.{row_cmp}
use Rattle.datasets.specs.Dataset.{Dataset, apart, at, dist, norm, rows, rows_of_either, with_rows}
use Rattle.datasets.specs.Entries.{AreRising, Entries, Row, has_row, rows_of, weight_in}
use Rattle.datasets.proofs.Members.{AllByRecursion-weaker}
use Rattle.datasets.proofs.Picks.{total-within}
use Rattle.datasets.proofs.RowLists.{AreRising-rows_of_either, AreRising-with_rows, has_row-with_rows}
use Rattle.datasets.proofs.Rows.{different_if_less, same_row-itself, same_row-turned}
use Rattle.datasets.proofs.Weights.{at-absent, weight_in-cons}

-- ---- rows that cover datasets

-- what is not in the list weighs 0
abbrev pub Covers : List Row → Dataset → Type 0
Covers ws A = (x : Row) → has_row ws x ≡ false → at A x ≡ zero_ratio

-- the rows of any of some datasets, in order
abbrev pub rows_of_all : List Dataset → List Row
rows_of_all [] = []
rows_of_all (A ∷ As) = with_rows (rows A) (rows_of_all As)

pub AreRising-rows_of_all : (As : List Dataset) → AreRising (rows_of_all As)
unfolding IsStrictlySortedBy
AreRising-rows_of_all [] = tt
AreRising-rows_of_all (A ∷ As) = AreRising-with_rows (rows A) (rows_of_all As) (AreRising-rows_of_all As)

in_neither : (xs ys : List Row) (x : Row) → has_row (with_rows xs ys) x ≡ false → (has_row xs x ≡ false) × (has_row ys x ≡ false)
in_neither xs ys x h = or_parts (has_row xs x) (has_row ys x) (sym (has_row-with_rows xs ys x) ∙ h)

pub Covers-rows_of_all : (As : List Dataset) → AllByRecursion (Covers (rows_of_all As)) As
Covers-rows_of_all [] = tt
Covers-rows_of_all (A ∷ As) = (
  λ x h. at-absent A x (in_neither (rows A) (rows_of_all As) x h).0,
  AllByRecursion-weaker (Covers (rows_of_all As)) (Covers (rows_of_all (A ∷ As))) As (λ B h x k. h x (in_neither (rows A) (rows_of_all As) x k).1) (Covers-rows_of_all As),
)

pub Covers-first : (A B : Dataset) → Covers (rows_of_either A B) A
Covers-first A B x h = at-absent A x (in_neither (rows A) (rows B) x h).0

pub Covers-second : (A B : Dataset) → Covers (rows_of_either A B) B
Covers-second A B x h = at-absent B x (in_neither (rows A) (rows B) x h).1

-- a sum over the rows of a dataset may go over more rows, where a row that weighs 0 adds 0
pub total-rows : (f : Row → Ratio) (A : Dataset) (ws : List Row) → AreRising ws → Covers ws A → ((x : Row) → at A x ≡ zero_ratio → f x ≡ zero_ratio) → total f (rows A) ≡ total f ws
total-rows f A ws r h k = total-within f (rows A) ws A.rising r (λ x e. k x (at-absent A x e)) (λ x e. k x (h x e))

-- ---- norms and distances, over any rising rows that cover the datasets

pub dist-over : (A B : Dataset) (ws : List Row) → AreRising ws → ((x : Row) → has_row ws x ≡ false → at A x ≡ at B x) → dist A B ≡ total (apart A B) ws
dist-over A B ws r h =
    total-within (apart A B) (rows_of_either A B) ws (AreRising-rows_of_either A B) r
    (λ x e. abs_sub_same (Covers-first A B x e ∙ sym (Covers-second A B x e))) (λ x e. abs_sub_same (h x e))

pub dist-cover : (A B : Dataset) (ws : List Row) → AreRising ws → Covers ws A → Covers ws B → dist A B ≡ total (apart A B) ws
dist-cover A B ws r h k = dist-over A B ws r (λ x e. h x e ∙ sym (k x e))

-- each entry has the weight of its row
weights_of_entries : (es : Entries) → AreRising (rows_of es) → AllByRecursion (λ e. weight_in es e.0 ≡ e.1) es
unfolding IsStrictlySortedBy
weights_of_entries [] h = tt
weights_of_entries (e ∷ es) h = (
  weight_in-cons e.0 e es ∙ ap (λ b. cond b e.1 (weight_in es e.0)) (same_row-itself e.0),
  later es h.0 (weights_of_entries es h.1),
)
  where
    later : (fs : Entries) → AllByRecursion (λ y. row_cmp e.0 y ≡ Less) (rows_of fs) → AllByRecursion (λ f. weight_in es f.0 ≡ f.1) fs → AllByRecursion (λ f. weight_in (e ∷ es) f.0 ≡ f.1) fs
    later [] p q = tt
    later (f ∷ fs) p q = (
      weight_in-cons f.0 e es ∙ ap (λ b. cond b e.1 (weight_in es f.0)) (same_row-turned f.0 e.0 ∙ different_if_less e.0 f.0 p.0) ∙ q.0,
      later fs p.1 q.1,
    )

pub norm-rows : (A : Dataset) → norm A ≡ total (λ x. ratio_abs (at A x)) (rows A)
norm-rows A =
    total-same_all (λ e. ratio_abs e.1) (λ e. ratio_abs (at A e.0)) A.entries
    (AllByRecursion-weaker (λ e. at A e.0 ≡ e.1) (λ e. ratio_abs e.1 ≡ ratio_abs (at A e.0)) A.entries (λ e h. ap ratio_abs (sym h)) (weights_of_entries A.entries A.rising))
    ∙ sym (total-map (λ x. ratio_abs (at A x)) (λ e. e.0) A.entries)

pub norm-cover : (A : Dataset) (ws : List Row) → AreRising ws → Covers ws A → norm A ≡ total (λ x. ratio_abs (at A x)) ws
norm-cover A ws r h = norm-rows A ∙ total-rows (λ x. ratio_abs (at A x)) A ws r h (λ x e. ap ratio_abs e ∙ ratio_abs_zero)
