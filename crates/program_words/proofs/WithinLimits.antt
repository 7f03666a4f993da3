-- The numbers of options are within their limits.
use Rattle.std.proofs.Common.{◌≡◌, ℕ, ◌≤◌, ◌^◌, ◌-◌, ◌&&◌, Bool, true, false, cond, List, [], ◌∷◌, Option, Some, None, sym, refl, arith, lit≤, nat_le, leb-true, subst}
use Rattle.std.specs.Prelude.{IfSome, codes, option_map, option_and_then}
use Rattle.std.specs.Option.{option_map_or}
use Rattle.std.specs.Str.Parse.{digits_value}
use Rattle.std.proofs.lemmas.Bool.{and_parts, true≢false}
use Rattle.std.proofs.lemmas.Str.Parse.{digits_value-take-le}
use Rattle.clap.specs.Words.{Kinds, Row, first_of, fault_of, matches_of}
use Rattle.program_words.specs.Laws.{IsWithinLimits, OptionsWithinLimits}
use Rattle.program_words.specs.Numbers.{begins_from_one, is_counting_number, number_up_to}
use Rattle.program_words.specs.Words.{command, demo_in, is_set, max_bytes_in, options_in, unless_fault}
use Rattle.program_words.specs.declared.options.Options.{Options}

-- the first digit of such a text is at least 1
first_digit : (byte : ℕ) → 49 ≤ byte → byte ≤ 57 → 1 ≤ digits_value 10 (byte ∷ [])
first_digit byte low high = grind arith

at_least_one : (text : List ℕ) → begins_from_one text ≡ true → 1 ≤ digits_value 10 text
at_least_one [] begins = absurd (true≢false (sym begins))
at_least_one (byte ∷ bytes) begins =
    let parts = and_parts (nat_le 49 byte) (nat_le byte 57) begins in
    let first = first_digit byte (leb-true 49 byte parts.0) (leb-true byte 57 parts.1) in
    omega (arith, digits_value-take-le 10 (byte ∷ bytes) 1 (lit≤ tt), first)

-- a number of a text is from 1 up to the limit
number_up_to-limits : (most : ℕ) (text : List ℕ) → IfSome (number_up_to most text) (λ n. (1 ≤ n) × (n ≤ most))
number_up_to-limits most text = either (is_counting_number text && nat_le (digits_value 10 text) most) refl
  where
    either : (b : Bool) → is_counting_number text && nat_le (digits_value 10 text) most ≡ b
        → IfSome (cond b (Some (digits_value 10 text)) None) (λ n. (1 ≤ n) × (n ≤ most))
    either false is = tt
    either true is =
        let parts = and_parts (is_counting_number text) (nat_le (digits_value 10 text) most) is in
        (at_least_one text (and_parts (begins_from_one text) _ parts.0).0, leb-true (digits_value 10 text) most parts.1)

-- the parts of options that a match gives
demo_of : (value : Option (List ℕ)) → IfSome (option_map_or (λ text. option_map Some (number_up_to 20 text)) value (Some None)) (λ demo. IfSome demo (λ n. (1 ≤ n) × (n ≤ 20)))
demo_of None = tt
demo_of (Some text) = mapped (number_up_to 20 text) (number_up_to-limits 20 text)
  where
    mapped : (number : Option ℕ) → IfSome number (λ n. (1 ≤ n) × (n ≤ 20)) → IfSome (option_map Some number) (λ demo. IfSome demo (λ n. (1 ≤ n) × (n ≤ 20)))
    mapped None limits = tt
    mapped (Some n) limits = limits

max_bytes_of : (value : Option (List ℕ)) → IfSome (option_map_or (number_up_to 1099511627776) value (Some 1099511627776)) (λ n. n ≤ 2 ^ 40)
max_bytes_of None = lit≤ tt
max_bytes_of (Some text) = mapped (number_up_to 1099511627776 text) (number_up_to-limits 1099511627776 text)
  where
    mapped : (number : Option ℕ) → IfSome number (λ n. (1 ≤ n) × (n ≤ 1099511627776)) → IfSome number (λ n. n ≤ 2 ^ 40)
    mapped None limits = tt
    mapped (Some n) limits = limits.1

-- both together
both : (curator : Bool) (demo : Option (Option ℕ)) (max : Option ℕ) → IfSome demo (λ d. IfSome d (λ n. (1 ≤ n) × (n ≤ 20))) → IfSome max (λ n. n ≤ 2 ^ 40)
    → IfSome (option_and_then (λ d. option_map (λ m. record { curator = curator; demo = d; max_bytes = m }) max) demo) IsWithinLimits
both curator None max d m = tt
both curator (Some demo) None d m = tt
both curator (Some demo) (Some max) d m = record { demo = d; max_bytes = m }

options_in-limits : (rows : List Row) → IfSome (options_in rows) IsWithinLimits
options_in-limits rows =
    both (is_set (codes "curator") rows) (demo_in rows) (max_bytes_in rows)
    (demo_of (first_of (codes "demo") rows)) (max_bytes_of (first_of (codes "max-bytes") rows))

unless_fault-limits : (kinds : Kinds) (rows : List Row) → IfSome (unless_fault kinds rows) IsWithinLimits
unless_fault-limits [] rows = options_in-limits rows
unless_fault-limits (kind ∷ kinds) rows = tt

from_some : (given : Option Options) (options : Options) → IfSome given IsWithinLimits → given ≡ Some options → IsWithinLimits options
from_some given options limits is = let h : IfSome (Some options) IsWithinLimits = subst (λ g. IfSome g IsWithinLimits) is limits in h

pub options_of-limits : OptionsWithinLimits
options_of-limits words options is =
    from_some (unless_fault (fault_of command words) (matches_of command words)) options
    (unless_fault-limits (fault_of command words) (matches_of command words)) is
