-- Outputs that gather members: no further apart than the weights of the members, all together.
use Rattle.std.specs.Prelude.{◌≡◌, List, [], ◌∷◌, map, refl}
use Rattle.std.proofs.Common.{sym, ap, ap₂, ◌∙◌}
use Rattle.ratios.specs.Ratio.{Ratio, ratio_abs, ratio_add, ratio_sub, zero_ratio}
use Rattle.ratios.proofs.Field.{abs_nonneg, le_then, le_trans, same_then}
use Rattle.ratios.proofs.Linear.{◌⊑◌}
use Rattle.ratios.proofs.Totals.{only, only-apart, only-le, only-zero, total, total-apart, total-append, total-cons, total-filter, total-le, total-map, total-same, total-swap, total-zero}
use Rattle.datasets.specs.Dataset.{Dataset, apart, at, dist, rows, rows_of_either}
use Rattle.datasets.specs.Entries.{AreRising, Row, has_row, same_row}
use Rattle.datasets.proofs.Covers.{Covers, total-rows}
use Rattle.datasets.proofs.Equality.{same_weights}
use Rattle.datasets.proofs.Picks.{total-pick}
use Rattle.datasets.proofs.RowLists.{AreRising-rows_of_either}
use Rattle.datasets.proofs.Rows.{same_row-turned}
use Rattle.operators.specs.Weights.{gathered, pairs}
use Rattle.operators.proofs.Gathered.{at-gathered}

-- ---- gathered datasets

-- over pairs: first over the first members, then over the second of each
pub total-pairs : {X Y : Type 0} (f : X × Y → Ratio) (ys : X → List Y) (xs : List X) → total f (pairs xs ys) ≡ total (λ x. total (λ y. f (x, y)) (ys x)) xs
total-pairs f ys [] = refl
total-pairs f ys (x ∷ xs) =
    total-append f (map (λ y. (x, y)) (ys x)) (pairs xs ys)
    ∙ ap₂ ratio_add (total-map f (λ y. (x, y)) (ys x)) (total-pairs f ys xs)
    ∙ sym (total-cons (λ x. total (λ y. f (x, y)) (ys x)) x xs)

-- a row weighs the sum over all members, where those that give another row count as 0
pub at-gathered-total : {X : Type 0} (row : X → Row) (weight : X → Ratio) (xs : List X) (z : Row) → at (gathered row weight xs) z ≡ total (λ x. only (same_row z (row x)) (weight x)) xs
at-gathered-total row weight xs z = at-gathered row weight xs z ∙ total-filter (λ x. same_row z (row x)) weight xs

-- over rising rows, what one member gives counts once or not at all
pub total-given : (x : Row) (q : Ratio) (zs : List Row) → AreRising zs → zero_ratio ⊑ q → total (λ z. only (same_row z x) q) zs ⊑ q
total-given x q zs r h =
    same_then (total-same (λ z. only (same_row z x) q) (λ z. only (same_row x z) q) zs (λ z. ap (λ b. only b q) (same_row-turned z x)) ∙ total-pick x (λ z. q) zs r)
    (only-le (has_row zs x) h)

pub dist-gathered : {X : Type 0} (row : X → Row) (v w : X → Ratio) (xs : List X) → dist (gathered row v xs) (gathered row w xs) ⊑ total (λ x. ratio_abs (ratio_sub (v x) (w x))) xs
dist-gathered {X} row v w xs =
    let V = gathered row v xs in
    let W = gathered row w xs in
    let zs = rows_of_either V W in
    let gap : X → Ratio = λ x. ratio_abs (ratio_sub (v x) (w x)) in
    le_trans (total-le (apart V W) (λ z. total (λ x. only (same_row z (row x)) (gap x)) xs) zs
    (λ z. same_then (ap₂ (λ p q. ratio_abs (ratio_sub p q)) (at-gathered-total row v xs z) (at-gathered-total row w xs z))
    (le_then (total-apart (λ x. only (same_row z (row x)) (v x)) (λ x. only (same_row z (row x)) (w x)) xs)
    (total-same (λ x. ratio_abs (ratio_sub (only (same_row z (row x)) (v x)) (only (same_row z (row x)) (w x)))) (λ x. only (same_row z (row x)) (gap x)) xs (λ x. only-apart (same_row z (row x)) (v x) (w x))))))
    (same_then (total-swap (λ z x. only (same_row z (row x)) (gap x)) zs xs)
    (total-le (λ x. total (λ z. only (same_row z (row x)) (gap x)) zs) gap xs
    (λ x. total-given (row x) (gap x) zs (AreRising-rows_of_either V W) (abs_nonneg (ratio_sub (v x) (w x))))))

-- ---- members that go over more rows

pub gathered-cover : (row : Row → Row) (weight : Row → Ratio) (A : Dataset) (ws : List Row) → AreRising ws → Covers ws A → ((x : Row) → at A x ≡ zero_ratio → weight x ≡ zero_ratio) →
    gathered row weight (rows A) ≡ gathered row weight ws
gathered-cover row weight A ws r h k =
    same_weights (gathered row weight (rows A)) (gathered row weight ws)
    (λ z. at-gathered-total row weight (rows A) z
    ∙ total-rows (λ x. only (same_row z (row x)) (weight x)) A ws r h (λ x e. ap (only (same_row z (row x))) (k x e) ∙ only-zero (same_row z (row x)))
    ∙ sym (at-gathered-total row weight ws z))

pub gathered-pairs-cover : {I : Type 0} (row : Row × I → Row) (weight : Row × I → Ratio) (is : Row → List I) (A : Dataset) (ws : List Row) → AreRising ws → Covers ws A →
    ((x : Row) → at A x ≡ zero_ratio → (i : I) → weight (x, i) ≡ zero_ratio) → gathered row weight (pairs (rows A) is) ≡ gathered row weight (pairs ws is)
gathered-pairs-cover {I} row weight is A ws r h k =
    same_weights (gathered row weight (pairs (rows A) is)) (gathered row weight (pairs ws is))
    (λ z. let given : Row × I → Ratio = λ p. only (same_row z (row p)) (weight p) in
    at-gathered-total row weight (pairs (rows A) is) z
    ∙ total-pairs given is (rows A)
    ∙ total-rows (λ x. total (λ i. given (x, i)) (is x)) A ws r h (λ x e. total-zero (λ i. given (x, i)) (is x) (λ i. ap (only (same_row z (row (x, i)))) (k x e i) ∙ only-zero (same_row z (row (x, i)))))
    ∙ sym (total-pairs given is ws)
    ∙ sym (at-gathered-total row weight (pairs ws is) z))
