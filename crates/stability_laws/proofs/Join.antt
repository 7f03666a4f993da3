-- Join: its outputs are no further apart than its inputs, together.
use Rattle.std.specs.Prelude.{◌≡◌, ◌⊎◌, Bool, true, false, filter, List, ◌++◌, refl}
use Rattle.std.proofs.Common.{sym, ap, ap₂, inl, inr, ◌∙◌}
use Rattle.ratios.specs.Ratio.{Ratio, ratio_abs, ratio_add, ratio_div, ratio_mul, ratio_sub, zero_ratio}
use Rattle.ratios.proofs.Additive.{ratio_add_comm}
use Rattle.ratios.proofs.Divided.{products_apart, zero_div}
use Rattle.ratios.proofs.Field.{add_le, add_nonneg, le_trans, mul_comm, same_then, triangle}
use Rattle.ratios.proofs.Linear.{◌⊑◌}
use Rattle.ratios.proofs.Products.{ratio_mul_zero, ratio_zero_mul}
use Rattle.ratios.proofs.Totals.{only, only-abs, only-zero, total, total-add, total-filter, total-le, total-mul, total-same, total-same_all, total-swap, total-zero}
use Rattle.datasets.specs.Dataset.{Dataset, apart, at, dist, norm, rows, rows_of_either}
use Rattle.datasets.specs.Entries.{AreRising, Row, same_row}
use Rattle.datasets.proofs.ByKey.{total-le_by_key, with_key}
use Rattle.datasets.proofs.Covers.{Covers, Covers-first, Covers-second, norm-cover, total-rows}
use Rattle.datasets.proofs.Distances.{norm-nonneg}
use Rattle.datasets.proofs.Equality.{same_weights}
use Rattle.datasets.proofs.Members.{AllByRecursion-passing, AllByRecursion-weaker}
use Rattle.datasets.proofs.RowLists.{AreRising-rows_of_either}
use Rattle.datasets.proofs.Rows.{same_row-equal, same_row-turned}
use Rattle.operators.specs.Operators.{both_norms, both_rows, joined, joint_weight, part}
use Rattle.operators.specs.Weights.{gathered, pairs}
use Rattle.operators.proofs.Tabulated.{at-filtered}
use Rattle.stability_laws.proofs.Gathers.{at-gathered-total, dist-gathered, total-pairs}
use Rattle.stability_laws.proofs.OneKey.{key_stable, times_apart}

-- ---- norms of parts

norm-part : (key : Row → Row) (k : Row) (A : Dataset) (ws : List Row) → AreRising ws → Covers ws A → norm (part key k A) ≡ total (λ x. ratio_abs (at A x)) (with_key key ws k)
norm-part key k A ws r h =
    let test : Row → Bool = λ x. same_row k (key x) in
    norm-cover (part key k A) ws r (λ x e. at-filtered test A x ∙ ap (only (test x)) (h x e) ∙ only-zero (test x))
    ∙ total-same (λ x. ratio_abs (at (part key k A) x)) (λ x. only (test x) (ratio_abs (at A x))) ws (λ x. ap ratio_abs (at-filtered test A x) ∙ only-abs (test x) (at A x))
    ∙ sym (total-filter test (λ x. ratio_abs (at A x)) ws)

both_norms-nonneg : (f g : Row → Row) (A B : Dataset) (k : Row) → zero_ratio ⊑ both_norms f g A B k
both_norms-nonneg f g A B k = add_nonneg (norm-nonneg (part f k A)) (norm-nonneg (part g k B))

-- ---- the pairs of a join, out of more rows

weightless : (f g : Row → Row) (A B : Dataset) (x y : Row) → (at A x ≡ zero_ratio) ⊎ (at B y ≡ zero_ratio) → joint_weight f g A B (x, y) ≡ zero_ratio
weightless f g A B x y h = ap (λ q. ratio_div q (both_norms f g A B (f x))) (none h) ∙ zero_div (both_norms f g A B (f x))
  where
    none : (at A x ≡ zero_ratio) ⊎ (at B y ≡ zero_ratio) → ratio_mul (at A x) (at B y) ≡ zero_ratio
    none (inl e) = ap (λ q. ratio_mul q (at B y)) e ∙ ratio_zero_mul (at B y)
    none (inr e) = ap (ratio_mul (at A x)) e ∙ ratio_mul_zero (at A x)

-- the rows y with the key of x
abbrev partners : (Row → Row) → (Row → Row) → List Row → Row → List Row
partners f g vs x = filter (λ y. same_row (f x) (g y)) vs

-- the rows x and y with equal keys
abbrev pairs_of : (Row → Row) → (Row → Row) → List Row → List Row → List (Row × Row)
pairs_of f g ws vs = pairs ws (partners f g vs)

module _ (f g : Row → Row) (A B : Dataset) where
  -- what the pair of x and y adds at z
  abbrev adds : Row → Row → Row → Ratio
  adds z x y = only (same_row z (x ++ y)) (joint_weight f g A B (x, y))

  at-pairs : (ws vs : List Row) (z : Row) → at (gathered both_rows (joint_weight f g A B) (pairs_of f g ws vs)) z ≡ total (λ x. total (adds z x) (partners f g vs x)) ws
  at-pairs ws vs z =
      at-gathered-total both_rows (joint_weight f g A B) (pairs_of f g ws vs) z
      ∙ total-pairs (λ p. only (same_row z (both_rows p)) (joint_weight f g A B p)) (partners f g vs) ws

  adds-none : (z x y : Row) → (at A x ≡ zero_ratio) ⊎ (at B y ≡ zero_ratio) → adds z x y ≡ zero_ratio
  adds-none z x y h = ap (only (same_row z (x ++ y))) (weightless f g A B x y h) ∙ only-zero (same_row z (x ++ y))

  more_partners : (vs : List Row) → AreRising vs → Covers vs B → (z x : Row) → total (adds z x) (partners f g (rows B) x) ≡ total (adds z x) (partners f g vs x)
  more_partners vs r h z x =
      let test : Row → Bool = λ y. same_row (f x) (g y) in
      total-filter test (adds z x) (rows B)
      ∙ total-rows (λ y. only (test y) (adds z x y)) B vs r h (λ y e. ap (only (test y)) (adds-none z x y (inr e)) ∙ only-zero (test y))
      ∙ sym (total-filter test (adds z x) vs)

  pub joined-cover : (ws vs : List Row) → AreRising ws → AreRising vs → Covers ws A → Covers vs B → joined f g A B ≡ gathered both_rows (joint_weight f g A B) (pairs_of f g ws vs)
  joined-cover ws vs r s h k =
      same_weights (joined f g A B) (gathered both_rows (joint_weight f g A B) (pairs_of f g ws vs))
      (λ z.
      at-pairs (rows A) (rows B) z
      ∙ total-rows (λ x. total (adds z x) (partners f g (rows B) x)) A ws r h (λ x e. total-zero (adds z x) (partners f g (rows B) x) (λ y. adds-none z x y (inl e)))
      ∙ total-same (λ x. total (adds z x) (partners f g (rows B) x)) (λ x. total (adds z x) (partners f g vs x)) ws (more_partners vs s k z)
      ∙ sym (at-pairs ws vs z))

-- ---- one side changes

-- how far the weights of a pair are apart
abbrev pair_apart : (Row → Row) → (Row → Row) → Dataset → Dataset → Dataset → Dataset → Row × Row → Ratio
pair_apart f g A B C D p = ratio_abs (ratio_sub (joint_weight f g A B p) (joint_weight f g C D p))

module _ (f g : Row → Row) (A C B : Dataset) (ws vs : List Row) (r : AreRising ws) (s : AreRising vs) (a : Covers ws A) (c : Covers ws C) (b : Covers vs B) where
  -- how far the shares of x at the key k are apart, times the norm of B there
  abbrev at_key : Row → Row → Ratio
  at_key k = times_apart (at A) (at C) (both_norms f g A B k) (both_norms f g C B k) (norm (part g k B))

  -- the pairs of x
  pairs_apart : (x : Row) → total (λ y. pair_apart f g A B C B (x, y)) (partners f g vs x) ≡ at_key (f x) x
  pairs_apart x =
      let gap = ratio_abs (ratio_sub (ratio_div (at A x) (both_norms f g A B (f x))) (ratio_div (at C x) (both_norms f g C B (f x)))) in
      total-same (λ y. pair_apart f g A B C B (x, y)) (λ y. ratio_mul gap (ratio_abs (at B y))) (partners f g vs x) (λ y. products_apart (at A x) (at C x) (at B y) (both_norms-nonneg f g A B (f x)) (both_norms-nonneg f g C B (f x)))
      ∙ total-mul gap (λ y. ratio_abs (at B y)) (partners f g vs x)
      ∙ ap (ratio_mul gap) (sym (norm-part g (f x) B vs s b))

  -- the rows of one key
  key_apart : (k : Row) → total (λ x. at_key (f x) x) (with_key f ws k) ⊑ total (apart A C) (with_key f ws k)
  key_apart k =
      let here = with_key f ws k in
      let n = norm (part g k B) in
      same_then
      (total-same_all (λ x. at_key (f x) x) (at_key k) here
      (AllByRecursion-weaker (λ x. same_row k (f x) ≡ true) (λ x. at_key (f x) x ≡ at_key k x) here (λ x e. ap (λ j. at_key j x) (sym (same_row-equal k (f x) e))) (AllByRecursion-passing (λ x. same_row k (f x)) ws))
      ∙ ap₂ (λ p q. total (times_apart (at A) (at C) (ratio_add p n) (ratio_add q n) n) here) (norm-part f k A ws r a) (norm-part f k C ws r c))
      (key_stable (at A) (at C) here n (norm-nonneg (part g k B)))

  one_side : total (λ x. total (λ y. pair_apart f g A B C B (x, y)) (partners f g vs x)) ws ⊑ total (apart A C) ws
  one_side =
      same_then (total-same (λ x. total (λ y. pair_apart f g A B C B (x, y)) (partners f g vs x)) (λ x. at_key (f x) x) ws pairs_apart)
      (total-le_by_key f (λ x. at_key (f x) x) (apart A C) ws key_apart)

-- ---- the sides turned

joint_turned : (f g : Row → Row) (A B : Dataset) (x y : Row) → f x ≡ g y → joint_weight f g A B (x, y) ≡ joint_weight g f B A (y, x)
joint_turned f g A B x y e =
    ap₂ ratio_div (mul_comm (at A x) (at B y)) (ratio_add_comm (norm (part f (f x) A)) (norm (part g (f x) B)) ∙ ap (both_norms g f B A) e)

pair_turned : (f g : Row → Row) (A B C D : Dataset) (x y : Row) → only (same_row (f x) (g y)) (pair_apart f g A B C D (x, y)) ≡ only (same_row (g y) (f x)) (pair_apart g f B A D C (y, x))
pair_turned f g A B C D x y =
    elim (same_row (f x) (g y)) as (λ b. same_row (f x) (g y) ≡ b → only b (pair_apart f g A B C D (x, y)) ≡ only b (pair_apart g f B A D C (y, x))) [
      | true ↦ λ e. let k = same_row-equal (f x) (g y) e in ap₂ (λ p q. ratio_abs (ratio_sub p q)) (joint_turned f g A B x y k) (joint_turned f g C D x y k)
      | false ↦ λ e. refl
    ] refl
    ∙ ap (λ b. only b (pair_apart g f B A D C (y, x))) (same_row-turned (f x) (g y))

sides_turned : (f g : Row → Row) (A B C D : Dataset) (ws vs : List Row) →
    total (λ x. total (λ y. pair_apart f g A B C D (x, y)) (partners f g vs x)) ws ≡ total (λ y. total (λ x. pair_apart g f B A D C (y, x)) (partners g f ws y)) vs
sides_turned f g A B C D ws vs =
    let there : Row → Row → Ratio = λ x y. only (same_row (f x) (g y)) (pair_apart f g A B C D (x, y)) in
    let back : Row → Row → Ratio = λ y x. only (same_row (g y) (f x)) (pair_apart g f B A D C (y, x)) in
    total-same (λ x. total (λ y. pair_apart f g A B C D (x, y)) (partners f g vs x)) (λ x. total (there x) vs) ws (λ x. total-filter (λ y. same_row (f x) (g y)) (λ y. pair_apart f g A B C D (x, y)) vs)
    ∙ total-swap there ws vs
    ∙ total-same (λ y. total (λ x. there x y) ws) (λ y. total (λ x. pair_apart g f B A D C (y, x)) (partners g f ws y)) vs
    (λ y. total-same (λ x. there x y) (back y) ws (λ x. pair_turned f g A B C D x y) ∙ sym (total-filter (λ x. same_row (g y) (f x)) (λ x. pair_apart g f B A D C (y, x)) ws))

-- ---- both sides change

pub join_stable : (f g : Row → Row) (A B C D : Dataset) → dist (joined f g A B) (joined f g C D) ⊑ ratio_add (dist A C) (dist B D)
join_stable f g A B C D =
    let ws = rows_of_either A C in
    let vs = rows_of_either B D in
    let r = AreRising-rows_of_either A C in
    let s = AreRising-rows_of_either B D in
    let ps = pairs_of f g ws vs in
    let first = pair_apart f g A B C B in
    let second = pair_apart f g C B C D in
    same_then (ap₂ dist (joined-cover f g A B ws vs r s (Covers-first A C) (Covers-first B D)) (joined-cover f g C D ws vs r s (Covers-second A C) (Covers-second B D)))
    (le_trans (dist-gathered both_rows (joint_weight f g A B) (joint_weight f g C D) ps)
    (le_trans (total-le (pair_apart f g A B C D) (λ p. ratio_add (first p) (second p)) ps (λ p. triangle (joint_weight f g A B p) (joint_weight f g C B p) (joint_weight f g C D p)))
    (same_then (total-add first second ps)
    (add_le (same_then (total-pairs first (partners f g vs) ws) (one_side f g A C B ws vs r s (Covers-first A C) (Covers-second A C) (Covers-first B D)))
    (same_then (total-pairs second (partners f g vs) ws ∙ sides_turned f g C B C D ws vs) (one_side g f B D C vs ws s r (Covers-first B D) (Covers-second B D) (Covers-second A C)))))))
