-- Pieces taken off a weight: one list of pieces after another.
use Rattle.std.specs.Prelude.{ℕ, ◌+◌, ◌≡◌, true, false, cond, ◌&&◌, List, [], ◌∷◌, ◌++◌, length, Option, Some, None, refl}
use Rattle.std.specs.List.{AllByRecursion}
use Rattle.std.proofs.Common.{arith, sym, ap, ap₂, subst, ◌∙◌}
use Rattle.std.proofs.lemmas.Bool.{and_left, and_right}
use Rattle.std.proofs.lemmas.List.{append-nil, append_assoc}
use Rattle.std.proofs.lemmas.List.Folds.{fold_stays}
use Rattle.std.proofs.lemmas.List.Sums.{fold-append}
use Rattle.ratios.specs.Range.{InRange, checked, in_range}
use Rattle.ratios.specs.Ratio.{Ratio, is_below, ratio_min, zero_ratio}
use Rattle.ratios.proofs.Range.{checked-in, checked_none, checked_some, in_range-out}
use Rattle.datasets.specs.Entries.{Entries, Row}
use Rattle.datasets.proofs.Members.{AllByRecursion-append}
use Rattle.operators.specs.Operators.{numbered}
use Rattle.weighted_set.proofs.Sets.{InRange-zero}
use Rattle.op_shave.specs.Shavings.{AreShaved, left_after, left_in_range, left_of, shavings}
use Rattle.op_shave.proofs.Above.{is_below-itself, left_of-none}

-- ---- where nothing is left
left_after-zero : (fs : List Ratio) → left_after zero_ratio fs ≡ zero_ratio
left_after-zero fs = fold_stays left_of zero_ratio (λ f. left_of-none zero_ratio f (is_below-itself zero_ratio)) fs

left_after-none : (f : Ratio) (fs : List Ratio) (w : Ratio) → is_below zero_ratio w ≡ false → left_after w (f ∷ fs) ≡ zero_ratio
left_after-none f fs w none = ap (λ v. left_after v fs) (left_of-none w f none) ∙ left_after-zero fs

pub shavings-none : (x : Row) (a : ℕ) (fs : List Ratio) (w : Ratio) → is_below zero_ratio w ≡ false → shavings x a fs w ≡ []
shavings-none x a [] w none = refl
shavings-none x a (f ∷ fs) w none = ap (λ b. cond b ((numbered (x, a), ratio_min f w) ∷ shavings x (a + 1) fs (left_of w f)) []) none

pub left_in_range-none : (fs : List Ratio) (w : Ratio) → InRange w → is_below zero_ratio w ≡ false → left_in_range fs w ≡ true
left_in_range-none [] w h none = refl
left_in_range-none (f ∷ fs) w h none =
    ap₂ (λ a b. a && b) h (ap (left_in_range fs) (left_of-none w f none) ∙ left_in_range-none fs zero_ratio InRange-zero (is_below-itself zero_ratio))

-- ---- one list of pieces after another
shavings-append : (x : Row) (a : ℕ) (fs gs : List Ratio) (w : Ratio) → shavings x a (fs ++ gs) w ≡ shavings x a fs w ++ shavings x (a + length fs) gs (left_after w fs)
shavings-append x a [] gs w = let e : a ≡ a + 0 = omega arith in ap (λ n. shavings x n gs w) e
shavings-append x a (f ∷ fs) gs w =
    let first : Row × Ratio = (numbered (x, a), ratio_min f w) in
    elim (is_below zero_ratio w) as (λ b. is_below zero_ratio w ≡ b → cond b (first ∷ shavings x (a + 1) (fs ++ gs) (left_of w f)) [] ≡ cond b (first ∷ shavings x (a + 1) fs (left_of w f)) [] ++ shavings x (a + length (f ∷ fs)) gs (left_after (left_of w f) fs)) [
      | true ↦ λ above.
          let e : (a + 1) + length fs ≡ a + length (f ∷ fs) = omega arith in
          ap (λ es. first ∷ es) (shavings-append x (a + 1) fs gs (left_of w f) ∙ ap (λ n. shavings x (a + 1) fs (left_of w f) ++ shavings x n gs (left_after (left_of w f) fs)) e)
      | false ↦ λ none. sym (shavings-none x (a + length (f ∷ fs)) gs (left_after w (f ∷ fs)) (ap (is_below zero_ratio) (left_after-none f fs w none) ∙ is_below-itself zero_ratio))
    ] refl

left_in_range-append : (fs gs : List Ratio) (w : Ratio) → left_in_range (fs ++ gs) w ≡ (left_in_range fs w && left_in_range gs (left_after w fs))
left_in_range-append [] gs w = refl
left_in_range-append (f ∷ fs) gs w =
    elim (in_range w) as (λ b. (b && left_in_range (fs ++ gs) (left_of w f)) ≡ ((b && left_in_range fs (left_of w f)) && left_in_range gs (left_after (left_of w f) fs))) [
      | true ↦ left_in_range-append fs gs (left_of w f)
      | false ↦ refl
    ]

-- ---- what a walk knows
pub shaved_start : (x : Row) (a : ℕ) (w : Ratio) (old : Entries) → InRange w → AreShaved x a [] w old old (Some w)
shaved_start x a w old h = record { added = sym (append-nil old); weights = tt; fits = refl; left = sym (checked-in w h) }

-- one piece more, while something is left
pub shaved_one : (x : Row) (a : ℕ) (f w p : Ratio) (old new : Entries) → InRange w → InRange p → is_below zero_ratio w ≡ true → p ≡ ratio_min f w → new ≡ old ++ (numbered (x, a), p) ∷ [] → AreShaved x a (f ∷ []) w old new (checked (left_of w f))
shaved_one x a f w p old new h k above less e =
    let one : (numbered (x, a), p) ∷ [] ≡ shavings x a (f ∷ []) w = ap (λ p. (numbered (x, a), p) ∷ []) less ∙ sym (ap (λ b. cond b ((numbered (x, a), ratio_min f w) ∷ []) []) above) in
    record { added = e ∙ ap (λ es. old ++ es) one; weights = subst (AllByRecursion (λ e. InRange e.1)) one (k, tt); fits = ap (λ b. b && true) h; left = refl }

-- no piece more, where nothing is left
shaved_none : (x : Row) (a : ℕ) (fs : List Ratio) (w : Ratio) (old : Entries) → InRange w → is_below zero_ratio w ≡ false → AreShaved x a fs w old old (checked (left_after w fs))
shaved_none x a fs w old h none =
    let no_more = sym (shavings-none x a fs w none) in
    record { added = sym (append-nil old) ∙ ap (λ es. old ++ es) no_more; weights = subst (AllByRecursion (λ e. InRange e.1)) no_more tt; fits = left_in_range-none fs w h none; left = refl }

module _ (x : Row) (a : ℕ) (fs : List Ratio) (w : Ratio) (old mid : Entries) (v : Ratio) (first : AreShaved x a fs w old mid (Some v)) where
  left_is : v ≡ left_after w fs
  left_is = (checked_some (left_after w fs) v (sym first.left)).1

  left_in : InRange v
  left_in = subst InRange (sym left_is) (checked_some (left_after w fs) v (sym first.left)).0

  pub shaved_more : (b : ℕ) (gs : List Ratio) (new : Entries) (rest : Option Ratio) → b ≡ a + length fs → AreShaved x b gs v mid new rest → AreShaved x a (fs ++ gs) w old new rest
  shaved_more b gs new rest place second =
      let whole : shavings x a fs w ++ shavings x b gs v ≡ shavings x a (fs ++ gs) w = ap₂ (λ n v. shavings x a fs w ++ shavings x n gs v) place left_is ∙ sym (shavings-append x a fs gs w) in
      record {
        added = second.added ∙ ap (λ es. es ++ shavings x b gs v) first.added ∙ append_assoc old (shavings x a fs w) (shavings x b gs v) ∙ ap (λ es. old ++ es) whole;
        weights = subst (AllByRecursion (λ e. InRange e.1)) whole (AllByRecursion-append (λ e. InRange e.1) (shavings x a fs w) (shavings x b gs v) first.weights second.weights);
        fits = left_in_range-append fs gs w ∙ ap₂ (λ a b. a && b) first.fits (ap (left_in_range gs) (sym left_is) ∙ second.fits);
        left = second.left ∙ ap checked (ap (λ v. left_after v gs) left_is ∙ sym (fold-append left_of w fs gs));
      }

  -- nothing is left for the other pieces
  pub shaved_all : (gs : List Ratio) → is_below zero_ratio v ≡ false → AreShaved x a (fs ++ gs) w old mid (checked (left_after v gs))
  shaved_all gs none = shaved_more (a + length fs) gs mid (checked (left_after v gs)) refl (shaved_none x (a + length fs) gs v mid left_in none)

  -- a value of a later piece is out of range
  pub out_later : (gs : List Ratio) → left_in_range gs v ≡ false → left_in_range (fs ++ gs) w ≡ false
  out_later gs out = left_in_range-append fs gs w ∙ and_right (left_in_range fs w) (left_in_range gs (left_after w fs)) (ap (left_in_range gs) (sym left_is) ∙ out)

  pub out_between : (gs hs : List Ratio) → left_in_range gs v ≡ false → left_in_range (fs ++ (gs ++ hs)) w ≡ false
  out_between gs hs out = out_later (gs ++ hs) (left_in_range-append gs hs v ∙ and_left (left_in_range gs v) (left_in_range hs (left_after v gs)) out)

-- what is left before the next piece is out of range
pub out_here : (x : Row) (a : ℕ) (fs : List Ratio) (w : Ratio) (old new : Entries) → AreShaved x a fs w old new None → (g : Ratio) (gs : List Ratio) → left_in_range (fs ++ g ∷ gs) w ≡ false
out_here x a fs w old new s g gs =
    let out = in_range-out (left_after w fs) (checked_none (left_after w fs) (sym s.left)) in
    left_in_range-append fs (g ∷ gs) w
    ∙ and_right (left_in_range fs w) (left_in_range (g ∷ gs) (left_after w fs)) (ap (λ b. b && left_in_range gs (left_of (left_after w fs) g)) out)

-- what is left once nothing was and a piece is taken
pub none_is_left : (f : Ratio) (fs : List Ratio) (w : Ratio) → is_below zero_ratio w ≡ false → checked (left_after w (f ∷ fs)) ≡ Some zero_ratio
none_is_left f fs w none = ap checked (left_after-none f fs w none) ∙ checked-in zero_ratio InRange-zero
