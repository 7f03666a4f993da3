-- The numbers of the command line.
use Rattle.std.specs.Prelude.{ℕ, Bool, ◌&&◌, false, nat_le, if◌then◌else◌, List, Option, None, Some, slice_get}
use Rattle.std.specs.Char.{is_ascii_digit}
use Rattle.std.specs.List.{list_all}
use Rattle.std.specs.Option.{option_map_or}
use Rattle.std.specs.Str.Parse.{digits_value}

-- the text begins with a digit from 1 (49) to 9 (57)
abbrev pub begins_from_one : List ℕ → Bool
begins_from_one text = option_map_or (λ first. nat_le 49 first && nat_le first 57) (slice_get text 0) false

-- decimal digits without a sign or a leading zero, which write a number of at least 1
abbrev pub is_counting_number : List ℕ → Bool
is_counting_number text = begins_from_one text && list_all is_ascii_digit text

-- the number from 1 to `most` that the text is
abbrev pub number_up_to : ℕ → List ℕ → Option ℕ
number_up_to most text = if is_counting_number text && nat_le (digits_value 10 text) most then Some (digits_value 10 text) else None
