-- The entries of weight at least t, and those of entries by falling weight, which are a front of them.
use Rattle.std.specs.Prelude.{◌≡◌, Bool, true, false, cond, filter, fold, not, [], ◌∷◌, ◌++◌, refl}
use Rattle.std.specs.List.{AllByRecursion}
use Rattle.std.specs.List.Sorted.{IsPermutation}
use Rattle.std.specs.Ordering.{is_eq, is_le, ordering_reverse}
use Rattle.std.specs.declared.cmp.Ordering.{Ordering}
use Rattle.std.specs.declared.cmp.Ordering.TheVariants.{Less, Equal, Greater}
use Rattle.std.proofs.Common.{sym, ap, ◌∙◌, true≢false}
use Rattle.std.proofs.lemmas.Bool.{false_from_ne_true}
use Rattle.ratios.specs.Ratio.{Ratio, ◌≼◌, is_at_most, is_below, ratio_cmp}
use Rattle.ratios.proofs.AtMost.{below_is_not_at_least}
use Rattle.ratios.proofs.Falling.{under_from_test, under_is_below}
use Rattle.ratios.proofs.Field.{le_from, le_trans}
use Rattle.ratios.proofs.Order.{ratio_cmp_total}
use Rattle.datasets.proofs.Members.{AllByRecursion-append, AllByRecursion-weaker}
use Rattle.datasets.specs.Entries.{Entries, Row, rows_of}
use Rattle.operators.specs.Operators.{down_to, with_levels}
use Rattle.level_walks.specs.Walks.{NeverRise, ties_with, weights_of}
use Rattle.level_walks.proofs.Folds.{fold-permuted}
use Rattle.level_walks.proofs.Falls.{AreAtLeast, first_level}

at_most_trans : (t u v : Ratio) → t ≼ u → u ≼ v → t ≼ v
at_most_trans t u v h k = (le_trans (le_from t u h) (le_from u v k)).le

-- the entries of weight at least t
abbrev pub from : Ratio → Entries → Entries
from t es = filter (λ e. is_at_most t e.1) es

-- each entry weighs at least t
abbrev pub AllFrom : Ratio → Entries → Type 0
AllFrom t es = AllByRecursion (λ e. t ≼ e.1) es

-- no entry does
abbrev pub NoneFrom : Ratio → Entries → Type 0
NoneFrom t es = AllByRecursion (λ e. is_at_most t e.1 ≡ false) es

-- ---- their rows, taken up in any order

module _ {S : Type 0} (step : S → Row → S) (alike : (s : S) (x y : Row) → step (step s x) y ≡ step (step s y) x) where
  abbrev take_up : S → Entries → S
  take_up s es = fold step s (rows_of es)

  -- the same, one entry at a time, where it weighs at least t
  abbrev step_from : Ratio → S → Row × Ratio → S
  step_from t s e = cond (is_at_most t e.1) (step s e.0) s

  take_up-from : (t : Ratio) (s : S) (es : Entries) → take_up s (from t es) ≡ fold (step_from t) s es
  take_up-from t s [] = refl
  take_up-from t s (e ∷ es) =
      elim (is_at_most t e.1) as (λ b. take_up s (cond b (e ∷ from t es) (from t es)) ≡ fold (step_from t) (cond b (step s e.0) s) es) [ true ↦ take_up-from t (step s e.0) es | false ↦ take_up-from t s es ]

  step_from-alike : (t : Ratio) (s : S) (e f : Row × Ratio) → step_from t (step_from t s e) f ≡ step_from t (step_from t s f) e
  step_from-alike t s e f = both (is_at_most t e.1) (is_at_most t f.1)
    where
      both : (a b : Bool) → cond b (step (cond a (step s e.0) s) f.0) (cond a (step s e.0) s) ≡ cond a (step (cond b (step s f.0) s) e.0) (cond b (step s f.0) s)
      both true true = alike s e.0 f.0
      both true false = refl
      both false true = refl
      both false false = refl

  pub take_up-permuted : (t : Ratio) (s : S) (es fs : Entries) → IsPermutation es fs → take_up s (from t fs) ≡ take_up s (from t es)
  take_up-permuted t s es fs p = take_up-from t s fs ∙ fold-permuted (step_from t) (step_from-alike t) s es fs p ∙ sym (take_up-from t s es)

-- ---- where the first entries weigh at least t and the others less

pub from_front : (t : Ratio) (front es : Entries) → AllFrom t front → NoneFrom t es → from t (front ++ es) ≡ front
from_front t [] [] h k = refl
from_front t [] (e ∷ es) h k = ap (λ b. cond b (e ∷ from t es) (from t es)) k.0 ∙ from_front t [] es h k.1
from_front t (e ∷ front) es h k = ap (λ b. cond b (e ∷ from t (front ++ es)) (from t (front ++ es))) h.0 ∙ ap (λ xs. e ∷ xs) (from_front t front es h.1 k)

pub none_below : (t : Ratio) (es : Entries) → AllFrom t es → AreAtLeast t es
none_below t [] h = tt
none_below t (e ∷ es) h = (below_is_not_at_least e.1 t ∙ ap not h.0, none_below t es h.1)

-- where the entries weigh less than t, the highest level below t is the first weight
pub down_from : (t : Ratio) (es : Entries) → NeverRise es → NoneFrom t es → down_to t (filter (λ u. is_below u t) (with_levels (weights_of es))) ≡ down_to t (weights_of es)
down_from t [] h k = refl
down_from t (e ∷ es) h k =
    let first = first_level e es h in
    let less : is_below e.1 t ≡ true = under_is_below t e.1 (under_from_test t e.1 k.0) in
    ap (λ us. down_to t (filter (λ u. is_below u t) us)) first.1
    ∙ ap (λ b. down_to t (cond b (e.1 ∷ filter (λ u. is_below u t) first.0) (filter (λ u. is_below u t) first.0))) less

-- ---- entries that never rise

AllFrom-lower : (t u : Ratio) (es : Entries) → t ≼ u → AllFrom u es → AllFrom t es
AllFrom-lower t u es h = AllByRecursion-weaker (λ e. u ≼ e.1) (λ e. t ≼ e.1) es (λ e k. at_most_trans t u e.1 h k)

pub AllFrom-more : (t : Ratio) (front : Entries) (e : Row × Ratio) → AllFrom t front → t ≼ e.1 → AllFrom t (front ++ e ∷ [])
AllFrom-more t front e h k = AllByRecursion-append (λ e. t ≼ e.1) front (e ∷ []) h (k, tt)

NoneFrom-later : (t : Ratio) (e : Row × Ratio) (es : Entries) → NeverRise (e ∷ es) → is_at_most t e.1 ≡ false → NoneFrom t (e ∷ es)
NoneFrom-later t e [] h k = (k, tt)
NoneFrom-later t e (f ∷ es) h k = (k, NoneFrom-later t f es h.1 (false_from_ne_true (is_at_most t f.1) (λ p. true≢false (sym (at_most_trans t f.1 e.1 p h.0) ∙ k))))

-- the others weigh less where the first of them doesn't tie
pub none_from : (e : Row × Ratio) (es : Entries) → NeverRise (e ∷ es) → ties_with e.1 es ≡ false → NoneFrom e.1 es
none_from e [] h k = tt
none_from e (f ∷ es) h k = NoneFrom-later e.1 f es h.1 (less (ratio_cmp e.1 f.1) refl)
  where
    less : (o : Ordering) → ratio_cmp e.1 f.1 ≡ o → is_at_most e.1 f.1 ≡ false
    less Less p = absurd (true≢false (sym h.0 ∙ ap is_le (ratio_cmp_total.antisymm f.1 e.1 ∙ ap ordering_reverse p)))
    less Equal p = absurd (true≢false (sym (ap is_eq p) ∙ k))
    less Greater p = ap is_le p

pub NeverRise-rest : (e : Row × Ratio) (es : Entries) → NeverRise (e ∷ es) → NeverRise es
NeverRise-rest e [] h = tt
NeverRise-rest e (f ∷ es) h = h.1

-- the entries in front weigh at least what the first of the others does
abbrev pub IsAbove : Entries → Entries → Type 0
IsAbove front [] = Unit {0}
IsAbove front (e ∷ es) = AllFrom e.1 front

pub IsAbove-more : (front : Entries) (e : Row × Ratio) (es : Entries) → NeverRise (e ∷ es) → AllFrom e.1 front → IsAbove (front ++ e ∷ []) es
IsAbove-more front e [] h k = tt
IsAbove-more front e (f ∷ es) h k = AllFrom-more f.1 front e (AllFrom-lower f.1 e.1 front h.0 k) h.0

pub IsAbove-none : (es : Entries) → IsAbove [] es
IsAbove-none [] = tt
IsAbove-none (e ∷ es) = tt
