-- Texts of 1 to 19 digits.
use Rattle.std.specs.Prelude.{ℕ, Bool, ◌&&◌, nat_lt, nat_le, List, length}
use Rattle.std.specs.Char.{is_ascii_digit}
use Rattle.std.specs.List.{list_all}

-- 1 to 19 digits and nothing else
abbrev pub is_short_numeral : List ℕ → Bool
is_short_numeral digits = nat_lt 0 (length digits) && nat_le (length digits) 19 && list_all is_ascii_digit digits
