-- The range of a checked fraction, and what a checked operation answers for an exact result.
use Rattle.std.specs.Prelude.{◌^◌, Bool, ◌&&◌, nat_lt, IsTrue, if◌then◌else◌, unsigned_abs, List, Option, Some, None}
use Rattle.std.specs.List.{list_all}
use Rattle.ratios.specs.Ratio.{Ratio}

-- both parts are below 2 ^ 62, the numerator without its sign
unfoldable pub in_range : Ratio → Bool
in_range q = nat_lt (unsigned_abs q.num) (2 ^ 62) && nat_lt q.den (2 ^ 62)

-- q is in range
abbrev pub InRange : Ratio → Type 0
InRange q = IsTrue (in_range q)

-- each ratio of a list is in range
abbrev pub all_in_range : List Ratio → Bool
all_in_range ws = list_all in_range ws

-- q, or nothing where it is out of range
abbrev pub checked : Ratio → Option Ratio
checked q = if in_range q then Some q else None
