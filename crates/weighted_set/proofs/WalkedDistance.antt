-- The distance of two datasets, by the walk over the entries of both.
use Rattle.std.specs.Prelude.{◌≡◌, Bool, true, false, cond, ◌&&◌, fold, List, [], ◌∷◌, map, MatchOption, Option, Some, None, refl}
use Rattle.std.specs.Borrow.{Bor}
use Rattle.std.specs.List.{list_all}
use Rattle.std.specs.Ordering.{match_ordering}
use Rattle.std.specs.declared.cmp.Ordering.{Ordering}
use Rattle.std.specs.declared.cmp.Ordering.TheVariants.{Less, Equal, Greater}
use Rattle.std.proofs.Common.{sym, ap, subst, ◌∙◌}
use Rattle.std.proofs.lemmas.Simd.{map-map}
use Rattle.ratios.specs.Range.{in_range, checked}
use Rattle.ratios.specs.Ratio.{Ratio, ratio_abs, ratio_add, ratio_sub, zero_ratio}
use Rattle.ratios.specs.Sums.{running_sums_after}
use Rattle.ratios.proofs.Range.{checked_none, checked_some, in_range-out}
use Rattle.record_text.specs.Order.{row_cmp}
use Rattle.datasets.specs.Dataset.{Dataset, rows_of_either}
use Rattle.datasets.specs.Entries.{Row, Entries}
use Rattle.weighted_set.specs.Compared.{compared_entries}
use Rattle.weighted_set.specs.declared.compared.Compared.{Compared}
use Rattle.weighted_set.specs.Sizes.{checked_distance}
use Rattle.weighted_set.specs.Merging.{merged}
use Rattle.weighted_set.proofs.Merged.{given_at, walk_all}
use Rattle.weighted_set.proofs.WeightSets.{and_nested, sum_from, sum_goes_on, sum_stops}

-- ---- the distance by the walk
-- how far two weights of a row are apart
abbrev gap : Row → Ratio → Ratio → Ratio
gap x v w = ratio_sub v w

-- the differences at the rows of two lists
abbrev pub gaps : Entries → Entries → List Ratio
gaps es fs = merged gap es fs

-- the sum of s and the absolute differences, or nothing where one, or a sum on the way, is out of range
abbrev pub distance_from : Ratio → List Ratio → Option Ratio
distance_from s gs = cond (list_all in_range gs) (sum_from s (map ratio_abs gs)) None

pub distance_walked : (A B : Dataset) → checked_distance A B ≡ distance_from zero_ratio (gaps A.entries B.entries)
distance_walked A B =
    let f = given_at gap A.entries B.entries in
    let xs = rows_of_either A B in
    let sums : List Ratio → Bool = λ ws. list_all in_range (running_sums_after zero_ratio ws) in
    ap (λ ws. cond (list_all in_range (map f xs) && sums ws) (Some (fold ratio_add zero_ratio ws)) None) (sym (map-map ratio_abs f xs))
    ∙ and_nested (list_all in_range (map f xs)) (sums (map ratio_abs (map f xs))) (Some (fold ratio_add zero_ratio (map ratio_abs (map f xs))))
    ∙ ap (distance_from zero_ratio) (walk_all gap A.entries B.entries A.rising B.rising)

pub difference_stops : (s g : Ratio) (gs : List Ratio) → checked g ≡ None → distance_from s (g ∷ gs) ≡ None
difference_stops s g gs e = ap (λ b. cond (b && list_all in_range gs) (sum_from s (map ratio_abs (g ∷ gs))) None) (in_range-out g (checked_none g e))

either_none : (b : Bool) (o : Option Ratio) → o ≡ None → cond b o None ≡ None
either_none true o e = e
either_none false o e = refl

module _ (s g d : Ratio) (gs : List Ratio) (difference : checked g ≡ Some d) where
  difference_in : distance_from s (g ∷ gs) ≡ cond (list_all in_range gs) (sum_from s (ratio_abs g ∷ map ratio_abs gs)) None
  difference_in = ap (λ b. cond (b && list_all in_range gs) (sum_from s (ratio_abs g ∷ map ratio_abs gs)) None) (checked_some g d difference).0

  -- what is added is the absolute value of the difference d
  same_size : ratio_abs d ≡ ratio_abs g
  same_size = ap ratio_abs (checked_some g d difference).1

  pub distance_stops : checked (ratio_add s (ratio_abs d)) ≡ None → distance_from s (g ∷ gs) ≡ None
  distance_stops e = difference_in ∙ either_none (list_all in_range gs) (sum_from s (ratio_abs g ∷ map ratio_abs gs)) (sum_stops s (ratio_abs g) (map ratio_abs gs) (subst (λ q. checked (ratio_add s q) ≡ None) same_size e))

  pub distance_goes_on : (r : Ratio) → checked (ratio_add s (ratio_abs d)) ≡ Some r → distance_from s (g ∷ gs) ≡ distance_from r gs
  distance_goes_on r e = difference_in ∙ ap (λ o. cond (list_all in_range gs) o None) (sum_goes_on s (ratio_abs g) r (map ratio_abs gs) (subst (λ q. checked (ratio_add s q) ≡ Some r) same_size e))

-- ---- one step of the walk
-- the entry that was taken off a list, and those after it
abbrev pub ahead : Option (Bor Row × Bor Ratio) → Entries → Entries
ahead None es = []
ahead (Some e) es = (e.0.now, e.1.now) ∷ es

-- the difference of the two weights, and what is left to walk
abbrev pub StepsTo : Option (Bor Row × Bor Ratio) → Option (Bor Row × Bor Ratio) → Entries → Entries → Option Compared → Type 0
StepsTo first second es fs None = gaps (ahead first es) (ahead second fs) ≡ []
StepsTo first second es fs (Some t) =
    gaps (ahead first es) (ahead second fs) ≡ ratio_sub t.left t.right ∷ match_ordering t.order (gaps es (ahead second fs)) (gaps es fs) (gaps (ahead first es) fs)

step_compared : (o : Ordering) (x y : Ratio) (ps qs rs : List Ratio)
    → match_ordering o (ratio_sub x zero_ratio ∷ ps) (ratio_sub x y ∷ qs) (ratio_sub zero_ratio y ∷ rs) ≡ ratio_sub (match_ordering o x x zero_ratio) (match_ordering o zero_ratio y y) ∷ match_ordering o ps qs rs
step_compared Less x y ps qs rs = refl
step_compared Equal x y ps qs rs = refl
step_compared Greater x y ps qs rs = refl

pub walk_steps : (first second : Option (Bor Row × Bor Ratio)) (es fs : Entries) → StepsTo first second es fs (compared_entries first second)
walk_steps None None es fs = refl
walk_steps None (Some f) es fs = refl
walk_steps (Some e) None es fs = refl
walk_steps (Some e) (Some f) es fs =
    step_compared (row_cmp e.0.now f.0.now) e.1.now f.1.now (gaps es ((f.0.now, f.1.now) ∷ fs)) (gaps es fs) (gaps ((e.0.now, e.1.now) ∷ es) fs)

pub taken_off : (Q : Type 0) (o : Option (Bor Row × Bor Ratio)) (es new : Entries) → MatchOption o ((es ≡ []) × Q) (λ e. es ≡ (e.0.now, e.1.now) ∷ new) → ahead o new ≡ es
taken_off Q None es new h = sym h.0
taken_off Q (Some e) es new h = sym h

module _ (s : Ratio) (first second : Option (Bor Row × Bor Ratio)) (es fs : Entries) where
  -- the walk from the entries that were taken off
  abbrev pub distance_ahead : Option Ratio
  distance_ahead = distance_from s (gaps (ahead first es) (ahead second fs))

  pub walk_ends : None ≡ compared_entries first second → distance_ahead ≡ Some s
  walk_ends e = ap (distance_from s) (subst (StepsTo first second es fs) (sym e) (walk_steps first second es fs))

  module _ (t : Compared) (next : Some t ≡ compared_entries first second) where
    -- what is left to walk
    abbrev pub left_to_walk : List Ratio
    left_to_walk = match_ordering t.order (gaps es (ahead second fs)) (gaps es fs) (gaps (ahead first es) fs)

    one_step : distance_ahead ≡ distance_from s (ratio_sub t.left t.right ∷ left_to_walk)
    one_step = ap (distance_from s) (subst (StepsTo first second es fs) (sym next) (walk_steps first second es fs))

    pub walk_stops_at_difference : None ≡ checked (ratio_sub t.left t.right) → distance_ahead ≡ None
    walk_stops_at_difference e = one_step ∙ difference_stops s (ratio_sub t.left t.right) left_to_walk (sym e)

    module _ (d : Ratio) (difference : Some d ≡ checked (ratio_sub t.left t.right)) where
      pub walk_stops_at_sum : None ≡ checked (ratio_add s (ratio_abs d)) → distance_ahead ≡ None
      walk_stops_at_sum e = one_step ∙ distance_stops s (ratio_sub t.left t.right) d left_to_walk (sym difference) (sym e)

      pub walk_goes_on : (r : Ratio) → Some r ≡ checked (ratio_add s (ratio_abs d)) → distance_ahead ≡ distance_from r left_to_walk
      walk_goes_on r e = one_step ∙ distance_goes_on s (ratio_sub t.left t.right) d left_to_walk (sym difference) r (sym e)
