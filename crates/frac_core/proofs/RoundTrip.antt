-- The text of a fraction is read again as the fraction.
use Rattle.std.proofs.Common.{ℕ, suc, ◌^◌, ◌<◌, ◌≤◌, ◌≡◌, ◌≢◌, List, ◌∷◌, ◌++◌, length, get_or, ℤ, pos, negsuc, cond, ◌==◌, Bool, true, false, unsigned_abs, decimal, refl, sym, ap, ap₂, ◌∙◌, arith, Some, Ok}
use Rattle.std.specs.Option.{ok_or, option_map, option_zip}
use Rattle.std.specs.Fmt.{signed_decimal}
use Rattle.std.specs.Str.Parse.{AllDigits}
use Rattle.std.proofs.lemmas.Bool.{eqb-true}
use Rattle.std.proofs.lemmas.Int.{ints}
use Rattle.std.proofs.lemmas.List.{get_or_append_left}
use Rattle.std.proofs.lemmas.Fmt.{decimal_is_IsNumeral, length-decimal-le}
use Rattle.std.proofs.lemmas.Str.Parse.{digit_at}
use Rattle.ratios.specs.Ratio.{Ratio}
use Rattle.ratios.specs.Code.{ratio-itself}
use Rattle.ratios.specs.Range.{InRange, checked}
use Rattle.ratios.proofs.Range.{bounds_of_InRange, checked-in}
use Rattle.frac_core.specs.Quotient.{quotient_of}
use Rattle.frac_core.specs.Text.{ratio_text, digits_of, unsigned_of, signed_quotient, weight_of}
use Rattle.frac_core.specs.declared.FracFault.TheVariants.{OutOfRange}
use Rattle.frac_core.proofs.Numerals.{IsShortNumeral, short_numeral_test}
use Rattle.frac_core.proofs.Reducing.{quotient_of-nonzero}
use Rattle.frac_core.proofs.Forms.{unsigned_of-digits, unsigned_of-slash, weight_of-minus, weight_of-plain}

decimal_short : (n : ℕ) → n < 2 ^ 62 → IsShortNumeral (decimal n)
decimal_short n h =
    let k = decimal_is_IsNumeral n (omega arith) in
    record { digits = k.0.1; some = k.0.0; short = length-decimal-le 19 n (omega arith) (omega arith) (omega arith) }

digits_of-decimal : (n : ℕ) → n < 2 ^ 62 → digits_of (decimal n) ≡ Some n
digits_of-decimal n h =
    let k = decimal_is_IsNumeral n (omega arith) in
    rw (short_numeral_test (decimal n) (decimal_short n h)) (ap Some k.1)

-- ---- the text with no sign
unsigned_of-whole : (n : ℕ) → n < 2 ^ 62 → unsigned_of (decimal n) ≡ Some (n, 1)
unsigned_of-whole n h = unsigned_of-digits (decimal n) (decimal_short n h).digits ∙ ap (option_map (λ k. (k, 1))) (digits_of-decimal n h)

unsigned_of-quotient : (n d : ℕ) → n < 2 ^ 62 → d < 2 ^ 62 → unsigned_of (decimal n ++ 47 ∷ decimal d) ≡ Some (n, d)
unsigned_of-quotient n d h k =
    unsigned_of-slash (decimal n) (decimal d) (decimal_short n h).digits ∙ ap₂ option_zip (digits_of-decimal n h) (digits_of-decimal d k)

-- ---- the text with its sign
-- digits and what follows them begin with no sign
first_is_digit : (ds t : List ℕ) → AllDigits 10 ds → 0 < length ds → 48 ≤ get_or (ds ++ t) 0 0
first_is_digit ds t h k =
    let e = get_or_append_left ds t 0 0 k in
    let d = digit_at ds 0 h k in
    omega (arith, e, d)

plain_text : (bs : List ℕ) → 48 ≤ get_or bs 0 0 → weight_of bs ≡ signed_quotient false (unsigned_of bs)
plain_text bs h = weight_of-plain bs (λ e. absurd (omega arith)) (λ e. absurd (omega arith))

weight_of-whole : (z : ℤ) → unsigned_abs z < 2 ^ 62 → weight_of (signed_decimal z) ≡ quotient_of z (pos 1)
weight_of-whole (pos n) h =
    let k = decimal_short n h in
    plain_text (decimal n) (digit_at (decimal n) 0 k.digits k.some).0 ∙ ap (signed_quotient false) (unsigned_of-whole n h)
weight_of-whole (negsuc n) h = weight_of-minus (45 ∷ decimal (suc n)) refl ∙ ap (signed_quotient true) (unsigned_of-whole (suc n) h)

weight_of-quotient : (z : ℤ) (d : ℕ) → unsigned_abs z < 2 ^ 62 → d < 2 ^ 62 → weight_of (signed_decimal z ++ 47 ∷ decimal d) ≡ quotient_of z (pos d)
weight_of-quotient (pos n) d h g =
    let k = decimal_short n h in
    plain_text (decimal n ++ 47 ∷ decimal d) (first_is_digit (decimal n) (47 ∷ decimal d) k.digits k.some) ∙ ap (signed_quotient false) (unsigned_of-quotient n d h g)
weight_of-quotient (negsuc n) d h g =
    weight_of-minus (45 ∷ (decimal (suc n) ++ 47 ∷ decimal d)) refl ∙ ap (signed_quotient true) (unsigned_of-quotient (suc n) d h g)

by_denominator : (z : ℤ) (d : ℕ) (b : Bool) → (d == 1) ≡ b → unsigned_abs z < 2 ^ 62 → d < 2 ^ 62 →
    weight_of (cond b (signed_decimal z) (signed_decimal z ++ 47 ∷ decimal d)) ≡ quotient_of z (pos d)
by_denominator z d true e h g = weight_of-whole z h ∙ ap (λ t. quotient_of z (pos t)) (sym (eqb-true d 1 e))
by_denominator z d false e h g = weight_of-quotient z d h g

positive_is_not_0 : (d : ℕ) → 0 < d → pos d ≢ pos 0
positive_is_not_0 d h e = absurd (omega (arith, ints))

-- ---- the fraction of its own parts
quotient_of-parts : (q : Ratio) → InRange q → quotient_of q.num (pos q.den) ≡ Ok q
quotient_of-parts q h =
    quotient_of-nonzero q.num (pos q.den) (positive_is_not_0 q.den q.positive)
    ∙ ap (λ o. ok_or o OutOfRange) (ap checked (ratio-itself q) ∙ checked-in q h)

pub weight_of-ratio_text : (q : Ratio) → InRange q → weight_of (ratio_text q) ≡ Ok q
weight_of-ratio_text q h =
    let b = bounds_of_InRange q h in
    by_denominator q.num q.den (q.den == 1) refl b.0 b.1 ∙ quotient_of-parts q h
