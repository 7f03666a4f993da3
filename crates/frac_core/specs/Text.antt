-- The text of a fraction, and the fraction that a weight's text gives.
use Rattle.std.specs.Prelude.{ℕ, ◌+◌, ◌^◌, Bool, ◌&&◌, nat_le, ◌==◌, if◌then◌else◌, List, ◌∷◌, ◌++◌, length, pos, neg_ℤ, Option, Some, None, Result, Err, decimal, position}
use Rattle.std.specs.Option.{option_map, option_zip, is_some}
use Rattle.std.specs.List.{before_first, after_first}
use Rattle.std.specs.Fmt.{signed_decimal}
use Rattle.std.specs.Str.Parse.{digits_value, starts_with_minus, without_leading_sign}
use Rattle.numerals.specs.Numerals.{is_short_numeral}
use Rattle.ratios.specs.Ratio.{Ratio}
use Rattle.frac_core.specs.Quotient.{quotient_of}
use Rattle.frac_core.specs.declared.FracFault.{FracFault}
use Rattle.frac_core.specs.declared.FracFault.TheVariants.{BadText}

-- `n` where the denominator is 1, else `n/d`, with a leading `-` where the numerator is negative; 47 is `/`
abbrev pub ratio_text : Ratio → List ℕ
ratio_text q = if q.den == 1 then signed_decimal q.num else signed_decimal q.num ++ 47 ∷ decimal q.den

-- 1 to 19 digits, as their number
abbrev pub digits_of : List ℕ → Option ℕ
digits_of bs = if is_short_numeral bs then Some (digits_value 10 bs) else None

-- a slash
abbrev pub is_slash : ℕ → Bool
is_slash b = b == 47

-- the numbers n and 1 of `n`
abbrev pub whole_of : List ℕ → Option (ℕ × ℕ)
whole_of bs = option_map (λ n. (n, 1)) (digits_of bs)

-- the numbers n and d of `n/d`
abbrev pub parts_by_slash : List ℕ → Option (ℕ × ℕ)
parts_by_slash bs = option_zip (digits_of (before_first is_slash bs)) (digits_of (after_first is_slash bs))

-- a point
abbrev pub is_point : ℕ → Bool
is_point b = b == 46

-- the numbers of the digits `is` before a point and `fs` after it, at most 18 in all: all digits as one number, over 10 ^ length fs
abbrev pub decimal_of : List ℕ → List ℕ → Option (ℕ × ℕ)
decimal_of is fs =
    if is_short_numeral is && is_short_numeral fs && nat_le (length is + length fs) 18
    then Some (digits_value 10 (is ++ fs), 10 ^ length fs)
    else None

-- the numbers of `i.f` or of `n`
abbrev pub decimal_or_whole : List ℕ → Option (ℕ × ℕ)
decimal_or_whole bs = if is_some (position is_point bs) then decimal_of (before_first is_point bs) (after_first is_point bs) else whole_of bs

-- the numbers n and d of a text with no sign
abbrev pub unsigned_of : List ℕ → Option (ℕ × ℕ)
unsigned_of bs = if is_some (position is_slash bs) then parts_by_slash bs else decimal_or_whole bs

-- the fraction of these numbers, negated at true, or BadText where there are none
abbrev pub signed_quotient : Bool → Option (ℕ × ℕ) → Result Ratio FracFault
signed_quotient negative None = Err BadText
signed_quotient negative (Some p) = quotient_of (if negative then neg_ℤ (pos p.0) else pos p.0) (pos p.1)

-- the fraction of a weight's text: an optional `+` or `-`, and the numbers of `n`, `n/d` or `i.f`
unfoldable pub weight_of : List ℕ → Result Ratio FracFault
weight_of bs = signed_quotient (starts_with_minus bs) (unsigned_of (without_leading_sign bs))
