-- Falling thresholds with half of the gap to the next lower one, and that a threshold more changes no sum
-- of a step function.
use Rattle.std.specs.List.{AllByRecursion}
use Rattle.std.specs.Prelude.{◌≡◌, ◌⊎◌, Bool, true, false, cond, filter, List, [], ◌∷◌, refl}
use Rattle.std.proofs.Common.{inl, inr, sym, ap, ap₂, subst, ◌∙◌}
use Rattle.ratios.specs.Ratio.{Ratio, is_at_most, is_below, ratio_add, ratio_half, ratio_sub, zero_ratio}
use Rattle.ratios.proofs.Additive.{ratio_add_assoc, ratio_add_zero, ratio_zero_add}
use Rattle.ratios.proofs.AtMost.{below_itself}
use Rattle.ratios.proofs.Falling.{AreFalling, AreFalling-none, Has, IsUnder, falling_first, falling_rest, of_member, under_at_most, under_is_below, under_not_at_most, under_not_below, under_not_itself, under_trans}
use Rattle.ratios.proofs.Halves.{half_rest, half_split}
use Rattle.ratios.proofs.Linear.{sub}
use Rattle.ratios.proofs.Totals.{only, total, total-cons, total-same_all}
use Rattle.datasets.proofs.Members.{AllByRecursion-weaker}
use Rattle.operators.specs.Operators.{down_to}

-- ---- thresholds

-- each threshold, with half of the gap down to the next one, or to 0
abbrev pub cuts : List Ratio → List (Ratio × Ratio)
cuts [] = []
cuts (t ∷ ts) = (t, ratio_half (down_to t ts)) ∷ cuts ts

-- the half gaps of the thresholds at which b holds
abbrev pub cut_total : (Ratio → Bool) → List Ratio → Ratio
cut_total b ts = total (λ c. only (b c.0) c.1) (cuts ts)

-- what b is at the lowest of the falling ratios that is at least t, or v where none is
abbrev pub step_value : (Ratio → Bool) → Bool → List Ratio → Ratio → Bool
step_value b v [] t = v
step_value b v (l ∷ ls) t = cond (is_at_most t l) (step_value b (b l) ls t) v

-- half of the gap from p down to the first threshold, where v holds, and the half gaps below
abbrev pub from_top : (Ratio → Bool) → Bool → Ratio → List Ratio → Ratio
from_top b v p ts = ratio_add (only v (ratio_half (down_to p ts))) (cut_total b ts)

-- thresholds at which b steps just where it does at some of them
abbrev pub Refines : (Ratio → Bool) → List Ratio → Type 0
Refines b ts = (v : Bool) (p : Ratio) (ls : List Ratio) → AreFalling ls → AllByRecursion (Has ts) ls → AllByRecursion (λ t. b t ≡ step_value b v ls t) ts → from_top b v p ts ≡ from_top b v p ls

-- two gaps, one after the other
two_gaps : (v : Bool) (p t l q : Ratio) → ratio_add (only v (ratio_half (ratio_sub p t))) (ratio_add (only v (ratio_half (ratio_sub t l))) q) ≡ ratio_add (only v (ratio_half (ratio_sub p l))) q
two_gaps true p t l q = sym (ratio_add_assoc (ratio_half (ratio_sub p t)) (ratio_half (ratio_sub t l)) q) ∙ ap (λ w. ratio_add w q) (half_split p t l)
two_gaps false p t l q = ratio_zero_add (ratio_add zero_ratio q)

last_gap : (v : Bool) (p t : Ratio) → ratio_add (only v (ratio_half (ratio_sub p t))) (ratio_add (only v (ratio_half t)) zero_ratio) ≡ ratio_add (only v (ratio_half p)) zero_ratio
last_gap true p t = ap (ratio_add (ratio_half (ratio_sub p t))) (ratio_add_zero (ratio_half t)) ∙ half_rest p t ∙ sym (ratio_add_zero (ratio_half p))
last_gap false p t = ratio_zero_add (ratio_add zero_ratio zero_ratio)

module _ (b : Ratio → Bool) (t : Ratio) (ts : List Ratio) (under : AllByRecursion (IsUnder t) ts) (more : Refines b ts) where
  -- the first threshold, apart from those below
  first_apart : (v : Bool) (p : Ratio) → from_top b v p (t ∷ ts) ≡ ratio_add (only v (ratio_half (ratio_sub p t))) (from_top b (b t) t ts)
  first_apart v p = ap (ratio_add (only v (ratio_half (ratio_sub p t)))) (total-cons (λ c. only (b c.0) c.1) (t, ratio_half (down_to t ts)) (cuts ts))

  none_left : (v : Bool) (p : Ratio) → b t ≡ v → AllByRecursion (λ s. b s ≡ v) ts → from_top b v p (t ∷ ts) ≡ from_top b v p []
  none_left v p e step =
      first_apart v p
      ∙ ap (λ w. ratio_add (only v (ratio_half (ratio_sub p t))) (from_top b w t ts)) e
      ∙ ap (ratio_add (only v (ratio_half (ratio_sub p t)))) (more v t [] AreFalling-none tt step)
      ∙ last_gap v p t

  -- a member other than the first is among the rest
  among_rest : (l : Ratio) → IsUnder t l → Has (t ∷ ts) l → Has ts l
  among_rest l less (inl e) = absurd (under_not_itself t (subst (IsUnder t) e less))
  among_rest l less (inr h) = h

  all_among_rest : (ls : List Ratio) → AllByRecursion (IsUnder t) ls → AllByRecursion (Has (t ∷ ts)) ls → AllByRecursion (Has ts) ls
  all_among_rest [] less h = tt
  all_among_rest (l ∷ ls) less h = (among_rest l less.0 h.0, all_among_rest ls less.1 h.1)

  -- the first threshold is the first step
  steps_below : (v : Bool) (ls : List Ratio) (ss : List Ratio) → AllByRecursion (IsUnder t) ss → AllByRecursion (λ s. b s ≡ step_value b v (t ∷ ls) s) ss → AllByRecursion (λ s. b s ≡ step_value b (b t) ls s) ss
  steps_below v ls [] less h = tt
  steps_below v ls (s ∷ ss) less h = (h.0 ∙ ap (λ c. cond c (step_value b (b t) ls s) v) (under_at_most t s less.0), steps_below v ls ss less.1 h.1)

  first_steps : (v : Bool) (p : Ratio) (ls : List Ratio) → AreFalling (t ∷ ls) → AllByRecursion (Has (t ∷ ts)) ls → AllByRecursion (λ s. b s ≡ step_value b v (t ∷ ls) s) ts → from_top b v p (t ∷ ts) ≡ from_top b v p (t ∷ ls)
  first_steps v p ls falls sub step =
      first_apart v p
      ∙ ap (ratio_add (only v (ratio_half (ratio_sub p t)))) (more (b t) t ls (falling_rest t ls falls) (all_among_rest ls (falling_first t ls falls) sub) (steps_below v ls ts under step)
      ∙ sym (total-cons (λ c. only (b c.0) c.1) (t, ratio_half (down_to t ls)) (cuts ls)))

  -- the first threshold is above the first step
  first_above : (v : Bool) (p : Ratio) (l : Ratio) (ls : List Ratio) → IsUnder t l → AreFalling (l ∷ ls) → AllByRecursion (Has (t ∷ ts)) (l ∷ ls) → b t ≡ step_value b v (l ∷ ls) t → AllByRecursion (λ s. b s ≡ step_value b v (l ∷ ls) s) ts
      → from_top b v p (t ∷ ts) ≡ from_top b v p (l ∷ ls)
  first_above v p l ls less falls sub here step =
      let e = here ∙ ap (λ c. cond c (step_value b (b l) ls t) v) (under_not_at_most t l less) in
      let below : AllByRecursion (IsUnder t) (l ∷ ls) = (less, AllByRecursion-weaker (IsUnder l) (IsUnder t) ls (λ s k. under_trans t l s less k) (falling_first l ls falls)) in
      first_apart v p
      ∙ ap (λ w. ratio_add (only v (ratio_half (ratio_sub p t))) (from_top b w t ts)) e
      ∙ ap (ratio_add (only v (ratio_half (ratio_sub p t)))) (more v t (l ∷ ls) falls (all_among_rest (l ∷ ls) below sub) step)
      ∙ two_gaps v p t l (cut_total b (l ∷ ls))

  at_first : (v : Bool) (p : Ratio) (l : Ratio) (ls : List Ratio) → AreFalling (l ∷ ls) → AllByRecursion (Has (t ∷ ts)) (l ∷ ls) → AllByRecursion (λ s. b s ≡ step_value b v (l ∷ ls) s) (t ∷ ts) → (l ≡ t) ⊎ Has ts l
      → from_top b v p (t ∷ ts) ≡ from_top b v p (l ∷ ls)
  at_first v p l ls falls sub step (inl e) =
      let same = λ (P : Ratio → Type 0) (h : P l). subst P e h in
      first_steps v p ls (same (λ k. AreFalling (k ∷ ls)) falls) sub.1 (same (λ k. AllByRecursion (λ s. b s ≡ step_value b v (k ∷ ls) s) ts) step.1)
      ∙ ap (λ k. from_top b v p (k ∷ ls)) (sym e)
  at_first v p l ls falls sub step (inr h) = first_above v p l ls (of_member (IsUnder t) ts l under h) falls sub step.0 step.1

  refines_more : Refines b (t ∷ ts)
  refines_more v p [] falls sub step = none_left v p step.0 step.1
  refines_more v p (l ∷ ls) falls sub step = at_first v p l ls falls sub step sub.0

refines_none : (b : Ratio → Bool) → Refines b []
refines_none b v p [] falls sub step = refl
refines_none b v p (l ∷ ls) falls sub step = absurd sub.0

pub refines : (b : Ratio → Bool) (ts : List Ratio) → AreFalling ts → Refines b ts
refines b [] falls = refines_none b
refines b (t ∷ ts) falls = refines_more b t ts (falling_first t ts falls) (refines b ts (falling_rest t ts falls))

-- thresholds more change no sum of a step function that is false above all steps
pub cut_total-refined : (b : Ratio → Bool) (ts ls : List Ratio) → AreFalling ts → AreFalling ls → AllByRecursion (Has ts) ls → AllByRecursion (λ t. b t ≡ step_value b false ls t) ts → cut_total b ts ≡ cut_total b ls
cut_total-refined b ts ls falls steps_fall sub step =
    sym (ratio_zero_add (cut_total b ts)) ∙ refines b ts falls false zero_ratio ls steps_fall sub step ∙ ratio_zero_add (cut_total b ls)

-- ---- the gap to the highest of the lower ones is that to the next

filter_all : (test : Ratio → Bool) (us : List Ratio) → AllByRecursion (λ u. test u ≡ true) us → filter test us ≡ us
filter_all test [] h = refl
filter_all test (u ∷ us) h = ap (λ b. cond b (u ∷ filter test us) (filter test us)) h.0 ∙ ap (λ us. u ∷ us) (filter_all test us h.1)

lower_of_first : (l : Ratio) (ls : List Ratio) → AllByRecursion (IsUnder l) ls → filter (λ u. is_below u l) (l ∷ ls) ≡ ls
lower_of_first l ls under =
    ap (λ b. cond b (l ∷ filter (λ u. is_below u l) ls) (filter (λ u. is_below u l) ls)) (below_itself l)
    ∙ filter_all (λ u. is_below u l) ls (AllByRecursion-weaker (IsUnder l) (λ u. is_below u l ≡ true) ls (under_is_below l) under)

pub gaps_are_cuts : (f : Ratio → Ratio → Ratio) (ls : List Ratio) → AreFalling ls → total (λ t. f t (ratio_half (down_to t (filter (λ u. is_below u t) ls)))) ls ≡ total (λ c. f c.0 c.1) (cuts ls)
gaps_are_cuts f [] falls = refl
gaps_are_cuts f (l ∷ ls) falls =
    let under = falling_first l ls falls in
    let whole : Ratio → Ratio = λ t. f t (ratio_half (down_to t (filter (λ u. is_below u t) (l ∷ ls)))) in
    let rest : Ratio → Ratio = λ t. f t (ratio_half (down_to t (filter (λ u. is_below u t) ls))) in
    total-cons whole l ls
    ∙ ap₂ ratio_add (ap (λ us. f l (ratio_half (down_to l us))) (lower_of_first l ls under))
    (total-same_all whole rest ls (AllByRecursion-weaker (IsUnder l) (λ t. whole t ≡ rest t) ls (λ t less. ap (λ b. f t (ratio_half (down_to t (cond b (l ∷ filter (λ u. is_below u t) ls) (filter (λ u. is_below u t) ls))))) (under_not_below l t less)) under)
    ∙ gaps_are_cuts f ls (falling_rest l ls falls))
    ∙ sym (total-cons (λ c. f c.0 c.1) (l, ratio_half (down_to l ls)) (cuts ls))
