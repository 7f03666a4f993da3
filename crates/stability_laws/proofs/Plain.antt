-- Filter, Select and the operators that go row by row.
use Rattle.std.specs.Prelude.{◌≡◌, Bool, true, false, List, [], ◌∷◌, refl}
use Rattle.std.proofs.Common.{arith, sym, ap₂, ◌∙◌}
use Rattle.std.proofs.lemmas.Int.{ints}
use Rattle.ratios.specs.Ratio.{Ratio, ratio_abs, ratio_add, ratio_max, ratio_min, ratio_sub, zero_ratio}
use Rattle.ratios.proofs.Additive.{ratio_add_zero, ratio_sub_itself}
use Rattle.ratios.proofs.AtMost.{ratio_max_itself, ratio_min_itself}
use Rattle.ratios.proofs.Field.{abs_nonneg, le_then, same_then}
use Rattle.ratios.proofs.Linear.{abs, add, four, greater, le_of, less, sub, ◌⊑◌}
use Rattle.ratios.proofs.Totals.{only, only-apart, only-le, total-add, total-le}
use Rattle.datasets.specs.Dataset.{Dataset, apart, at, dist, rows_of_either}
use Rattle.datasets.specs.Entries.{Row}
use Rattle.datasets.proofs.Covers.{AreRising-rows_of_all, Covers, Covers-first, Covers-rows_of_all, Covers-second, dist-cover, rows_of_all}
use Rattle.datasets.proofs.RowLists.{AreRising-rows_of_either}
use Rattle.operators.specs.Operators.{filtered, pointwise, selected}
use Rattle.operators.proofs.Tabulated.{at-filtered, at-pointwise}
use Rattle.stability_laws.proofs.Gathers.{dist-gathered, gathered-cover}

-- ---- Filter

Covers-filtered : (test : Row → Bool) (A : Dataset) (ws : List Row) → Covers ws A → Covers ws (filtered test A)
Covers-filtered test A ws h x e = at-filtered test A x ∙ elim (test x) as (λ b. only b (at A x) ≡ zero_ratio) [ true ↦ h x e | false ↦ refl ]

pub filter_stable : (test : Row → Bool) (A B : Dataset) → dist (filtered test A) (filtered test B) ⊑ dist A B
filter_stable test A B =
    let ws = rows_of_either A B in
    same_then (dist-cover (filtered test A) (filtered test B) ws (AreRising-rows_of_either A B) (Covers-filtered test A ws (Covers-first A B)) (Covers-filtered test B ws (Covers-second A B)))
    (total-le (apart (filtered test A) (filtered test B)) (apart A B) ws
    (λ x. same_then (ap₂ (λ p q. ratio_abs (ratio_sub p q)) (at-filtered test A x) (at-filtered test B x) ∙ only-apart (test x) (at A x) (at B x))
    (only-le (test x) (abs_nonneg (ratio_sub (at A x) (at B x))))))

-- ---- row by row

-- an operation's results are no further apart than its operands
abbrev pub IsShort : (Ratio → Ratio → Ratio) → Type 0
IsShort op = (q r s t : Ratio) → ratio_abs (ratio_sub (op q r) (op s t)) ⊑ ratio_add (ratio_abs (ratio_sub q s)) (ratio_abs (ratio_sub r t))

Covers-pointwise : (op : Ratio → Ratio → Ratio) → op zero_ratio zero_ratio ≡ zero_ratio → (A B : Dataset) (ws : List Row) → Covers ws A → Covers ws B → Covers ws (pointwise op A B)
Covers-pointwise op e A B ws h k x n = at-pointwise op e A B x ∙ ap₂ op (h x n) (k x n) ∙ e

pub pointwise_stable : (op : Ratio → Ratio → Ratio) → op zero_ratio zero_ratio ≡ zero_ratio → IsShort op → (A B C D : Dataset) →
    dist (pointwise op A B) (pointwise op C D) ⊑ ratio_add (dist A C) (dist B D)
pointwise_stable op e short A B C D =
    let ws = rows_of_all (A ∷ B ∷ C ∷ D ∷ []) in
    let r = AreRising-rows_of_all (A ∷ B ∷ C ∷ D ∷ []) in
    let h = Covers-rows_of_all (A ∷ B ∷ C ∷ D ∷ []) in
    same_then (dist-cover (pointwise op A B) (pointwise op C D) ws r (Covers-pointwise op e A B ws h.0 h.1.0) (Covers-pointwise op e C D ws h.1.1.0 h.1.1.1.0))
    (le_then (total-le (apart (pointwise op A B) (pointwise op C D)) (λ x. ratio_add (apart A C x) (apart B D x)) ws
    (λ x. same_then (ap₂ (λ p q. ratio_abs (ratio_sub p q)) (at-pointwise op e A B x) (at-pointwise op e C D x)) (short (at A x) (at B x) (at C x) (at D x))))
    (total-add (apart A C) (apart B D) ws ∙ sym (ap₂ ratio_add (dist-cover A C ws r h.0 h.1.1.0) (dist-cover B D ws r h.1.0 h.1.1.1.0))))

add_short : IsShort ratio_add
add_short q r s t =
    let f = four q r s t in
    le_of (abs (sub (add f.first f.second) (add f.third f.fourth))) (add (abs (sub f.first f.third)) (abs (sub f.second f.fourth))) (omega (arith, ints))

sub_short : IsShort ratio_sub
sub_short q r s t =
    let f = four q r s t in
    le_of (abs (sub (sub f.first f.second) (sub f.third f.fourth))) (add (abs (sub f.first f.third)) (abs (sub f.second f.fourth))) (omega (arith, ints))

max_short : IsShort ratio_max
max_short q r s t =
    let f = four q r s t in
    let m = greater f.first f.second in
    let n = greater f.third f.fourth in
    le_of (abs (sub m.over n.over)) (add (abs (sub f.first f.third)) (abs (sub f.second f.fourth))) (omega (arith, ints))

min_short : IsShort ratio_min
min_short q r s t =
    let f = four q r s t in
    let m = less f.first f.second in
    let n = less f.third f.fourth in
    le_of (abs (sub m.over n.over)) (add (abs (sub f.first f.third)) (abs (sub f.second f.fourth))) (omega (arith, ints))

pub concat_stable : (A B C D : Dataset) → dist (pointwise ratio_add A B) (pointwise ratio_add C D) ⊑ ratio_add (dist A C) (dist B D)
concat_stable = pointwise_stable ratio_add (ratio_add_zero zero_ratio) add_short

pub except_stable : (A B C D : Dataset) → dist (pointwise ratio_sub A B) (pointwise ratio_sub C D) ⊑ ratio_add (dist A C) (dist B D)
except_stable = pointwise_stable ratio_sub (ratio_sub_itself zero_ratio) sub_short

pub union_stable : (A B C D : Dataset) → dist (pointwise ratio_max A B) (pointwise ratio_max C D) ⊑ ratio_add (dist A C) (dist B D)
union_stable = pointwise_stable ratio_max (ratio_max_itself zero_ratio) max_short

pub intersect_stable : (A B C D : Dataset) → dist (pointwise ratio_min A B) (pointwise ratio_min C D) ⊑ ratio_add (dist A C) (dist B D)
intersect_stable = pointwise_stable ratio_min (ratio_min_itself zero_ratio) min_short

-- ---- Select

pub select_stable : (f : Row → Row) (A B : Dataset) → dist (selected f A) (selected f B) ⊑ dist A B
select_stable f A B =
    let ws = rows_of_either A B in
    let r = AreRising-rows_of_either A B in
    same_then (ap₂ dist (gathered-cover f (at A) A ws r (Covers-first A B) (λ x e. e)) (gathered-cover f (at B) B ws r (Covers-second A B) (λ x e. e)))
    (dist-gathered f (at A) (at B) ws)
