-- Setting a weight keeps entries rising, and none of them 0.
use Rattle.std.specs.Prelude.{◌≡◌, true, false, cond, [], ◌∷◌, refl}
use Rattle.std.specs.List.{AllByRecursion}
use Rattle.std.specs.List.Sorted.{IsStrictlySortedBy}
use Rattle.std.specs.Ordering.{match_ordering, ordering_reverse}
use Rattle.std.specs.declared.cmp.Ordering.TheVariants.{Less, Equal, Greater}
use Rattle.std.proofs.Common.{sym, ap, ◌∙◌, true≢false}
use Rattle.ratios.specs.Ratio.{Ratio, zero_ratio}
use Rattle.record_text.specs.Order.{row_cmp}
use Rattle.record_text.specs.OrderLaws.{row_total}
use Rattle.datasets.specs.Entries.{Row, Entries, rows_of, AreRising, NoneZero, is_zero, in_front, set_in}

-- x is below each row of the entries
abbrev pub IsBelow : Row → Entries → Type 0
IsBelow x es = AllByRecursion (λ y. row_cmp x y ≡ Less) (rows_of es)

-- what is below a row is below those above it
pub IsBelow-lower : (x y : Row) (es : Entries) → row_cmp x y ≡ Less → IsBelow y es → IsBelow x es
IsBelow-lower x y [] p h = tt
IsBelow-lower x y (e ∷ es) p h = (row_total.trans x y e.0 p h.0, IsBelow-lower x y es p h.1)

IsBelow-in_front : (y x : Row) (w : Ratio) (es : Entries) → row_cmp y x ≡ Less → IsBelow y es → IsBelow y (in_front x w es)
IsBelow-in_front y x w es p h = elim (is_zero w) as (λ b. IsBelow y (cond b es ((x, w) ∷ es))) [ true ↦ h | false ↦ (p, h) ]

pub IsBelow-set_in : (y x : Row) (w : Ratio) (es : Entries) → row_cmp y x ≡ Less → IsBelow y es → IsBelow y (set_in x w es)
IsBelow-set_in y x w [] p h = IsBelow-in_front y x w [] p h
IsBelow-set_in y x w (e ∷ es) p h =
    elim (row_cmp x e.0) as (λ o. IsBelow y (match_ordering o (in_front x w (e ∷ es)) (in_front e.0 w es) (e ∷ set_in x w es))) [
      | Less ↦ IsBelow-in_front y x w (e ∷ es) p h
      | Equal ↦ IsBelow-in_front y e.0 w es h.0 h.1
      | Greater ↦ (h.0, IsBelow-set_in y x w es p h.1)
    ]

AreRising-in_front : (x : Row) (w : Ratio) (es : Entries) → IsBelow x es → AreRising (rows_of es) → AreRising (rows_of (in_front x w es))
unfolding IsStrictlySortedBy
AreRising-in_front x w es p h = elim (is_zero w) as (λ b. AreRising (rows_of (cond b es ((x, w) ∷ es)))) [ true ↦ h | false ↦ (p, h) ]

-- the order turned round
pub less_turned : (x y : Row) → row_cmp x y ≡ Greater → row_cmp y x ≡ Less
less_turned x y p = row_total.antisymm y x ∙ ap ordering_reverse p

pub AreRising-set_in : (x : Row) (w : Ratio) (es : Entries) → AreRising (rows_of es) → AreRising (rows_of (set_in x w es))
unfolding IsStrictlySortedBy
AreRising-set_in x w [] h = AreRising-in_front x w [] tt tt
AreRising-set_in x w (e ∷ es) h =
    elim (row_cmp x e.0) as (λ o. row_cmp x e.0 ≡ o → AreRising (rows_of (match_ordering o (in_front x w (e ∷ es)) (in_front e.0 w es) (e ∷ set_in x w es)))) [
      | Less ↦ λ p. AreRising-in_front x w (e ∷ es) (p, IsBelow-lower x e.0 es p h.0) h
      | Equal ↦ λ p. AreRising-in_front e.0 w es h.0 h.1
      | Greater ↦ λ p. (IsBelow-set_in e.0 x w es (less_turned x e.0 p) h.0, AreRising-set_in x w es h.1)
    ] refl

-- 0 passes the test
pub is_zero-zero_ratio : is_zero zero_ratio ≡ true
unfolding zero_ratio
is_zero-zero_ratio = refl

NoneZero-in_front : (x : Row) (w : Ratio) (es : Entries) → NoneZero es → NoneZero (in_front x w es)
NoneZero-in_front x w es h =
    elim (is_zero w) as (λ b. is_zero w ≡ b → NoneZero (cond b es ((x, w) ∷ es))) [
      | true ↦ λ p. h
      | false ↦ λ p. (λ e. true≢false (sym is_zero-zero_ratio ∙ ap is_zero (sym e) ∙ p), h)
    ] refl

pub NoneZero-set_in : (x : Row) (w : Ratio) (es : Entries) → NoneZero es → NoneZero (set_in x w es)
NoneZero-set_in x w [] h = NoneZero-in_front x w [] h
NoneZero-set_in x w (e ∷ es) h =
    elim (row_cmp x e.0) as (λ o. NoneZero (match_ordering o (in_front x w (e ∷ es)) (in_front e.0 w es) (e ∷ set_in x w es))) [
      | Less ↦ NoneZero-in_front x w (e ∷ es) h
      | Equal ↦ NoneZero-in_front e.0 w es h.1
      | Greater ↦ (h.0, NoneZero-set_in x w es h.1)
    ]
