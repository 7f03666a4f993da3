-- Falling lists of ratios, and their members.
use Rattle.std.specs.Prelude.{◌≡◌, ◌⊎◌, true, false, List, [], ◌∷◌, refl}
use Rattle.std.specs.List.{AllByRecursion}
use Rattle.std.specs.List.Sorted.{IsStrictlySortedBy}
use Rattle.std.specs.Ordering.{is_le, is_lt, ordering_reverse}
use Rattle.std.specs.declared.cmp.Ordering.{Ordering}
use Rattle.std.specs.declared.cmp.Ordering.TheVariants.{Less, Equal, Greater}
use Rattle.std.proofs.Common.{inl, inr, sym, ap, subst, ◌∙◌}
use Rattle.ratios.specs.Ratio.{Ratio, is_at_most, is_below, ratio_cmp}
use Rattle.ratios.proofs.AtMost.{below_itself}
use Rattle.ratios.proofs.Field.{le_from}
use Rattle.ratios.proofs.Linear.{◌⊑◌}
use Rattle.ratios.proofs.Order.{ratio_cmp_total, same_from_tie}

-- ---- one ratio below another

-- u is below t
abbrev pub IsUnder : Ratio → Ratio → Type 0
IsUnder t u = ratio_cmp u t ≡ Less

turned : (t u : Ratio) → IsUnder t u → ratio_cmp t u ≡ Greater
turned t u h = ratio_cmp_total.antisymm t u ∙ ap ordering_reverse h

pub under_at_most : (t u : Ratio) → IsUnder t u → is_at_most u t ≡ true
under_at_most t u h = ap is_le h

pub under_le : (t u : Ratio) → IsUnder t u → u ⊑ t
under_le t u h = le_from u t (under_at_most t u h)

pub under_not_at_most : (t u : Ratio) → IsUnder t u → is_at_most t u ≡ false
under_not_at_most t u h = ap is_le (turned t u h)

pub under_is_below : (t u : Ratio) → IsUnder t u → is_below u t ≡ true
under_is_below t u h = ap is_lt h

pub under_not_below : (t u : Ratio) → IsUnder t u → is_below t u ≡ false
under_not_below t u h = ap is_lt (turned t u h)

-- nothing is below itself
pub under_not_itself : (t : Ratio) → IsUnder t t → ⊥
under_not_itself t h = let e = sym (under_is_below t t h) ∙ below_itself t in cc

pub under_trans : (t u v : Ratio) → IsUnder t u → IsUnder u v → IsUnder t v
under_trans t u v h k = ratio_cmp_total.trans v u t k h

-- what is not at most r is above it
pub under_from_test : (q r : Ratio) → is_at_most q r ≡ false → IsUnder q r
under_from_test q r e = ratio_cmp_total.antisymm r q ∙ ap ordering_reverse (greater (ratio_cmp q r) e)
  where
    greater : (o : Ordering) → is_le o ≡ false → o ≡ Greater
    greater Less e = cc
    greater Equal e = cc
    greater Greater e = refl

-- what is at most r and not r is below it
pub at_most_split : (q r : Ratio) → is_at_most q r ≡ true → (q ≡ r) ⊎ IsUnder r q
at_most_split q r e = elim (ratio_cmp q r) as (λ o. ratio_cmp q r ≡ o → (q ≡ r) ⊎ IsUnder r q) [
  | Less ↦ λ p. inr p
  | Equal ↦ λ p. inl (same_from_tie q r p)
  | Greater ↦ λ p. absurd (let f = sym (ap is_le p) ∙ e in cc)
] refl

-- ---- falling lists

-- each ratio is above the next
abbrev pub AreFalling : List Ratio → Type 0
AreFalling ts = IsStrictlySortedBy (λ t u. ratio_cmp u t) ts

pub falling_first : (t : Ratio) (ts : List Ratio) → AreFalling (t ∷ ts) → AllByRecursion (IsUnder t) ts
unfolding IsStrictlySortedBy
falling_first t ts h = h.0

pub falling_rest : (t : Ratio) (ts : List Ratio) → AreFalling (t ∷ ts) → AreFalling ts
unfolding IsStrictlySortedBy
falling_rest t ts h = h.1

pub AreFalling-none : AreFalling []
unfolding IsStrictlySortedBy
AreFalling-none = tt

pub AreFalling-one : (t : Ratio) → AreFalling (t ∷ [])
unfolding IsStrictlySortedBy
AreFalling-one t = (tt, tt)

pub AreFalling-two : (t u : Ratio) → IsUnder t u → AreFalling (t ∷ u ∷ [])
unfolding IsStrictlySortedBy
AreFalling-two t u h = ((h, tt), (tt, tt))

-- ---- members

-- t is in the list
abbrev pub Has : List Ratio → Ratio → Type 0
Has [] t = ⊥
Has (u ∷ us) t = (t ≡ u) ⊎ Has us t

-- what holds of each member holds of one
pub of_member : (P : Ratio → Type 0) (ts : List Ratio) (t : Ratio) → AllByRecursion P ts → Has ts t → P t
of_member P [] t all h = absurd h
of_member P (u ∷ us) t all (inl e) = subst P (sym e) all.0
of_member P (u ∷ us) t all (inr h) = of_member P us t all.1 h
