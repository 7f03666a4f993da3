-- Lists of rows with weights.
use Rattle.std.specs.Prelude.{ℕ, ◌≢◌, pos, Bool, if◌then◌else◌, List, [], ◌∷◌, map, unwrap_or}
use Rattle.std.specs.List.{AllByRecursion, list_any}
use Rattle.std.specs.List.Sorted.{IsStrictlySortedBy}
use Rattle.std.specs.Map.{lookup}
use Rattle.std.specs.Ordering.{int_eq, eq_by_cmp, match_ordering}
use Rattle.ratios.specs.Ratio.{Ratio, zero_ratio}
use Rattle.record_text.specs.declared.atom.Atom.{Atom}
use Rattle.record_text.specs.Order.{row_cmp}

-- a row: the list of its atoms
abbrev pub Row : Type 0
Row = List Atom

-- x and y are one row: only equal rows tie
abbrev pub same_row : Row → Row → Bool
same_row x y = eq_by_cmp row_cmp x y

-- the row x is in the list
abbrev pub has_row : List Row → Row → Bool
has_row xs x = list_any (same_row x) xs

-- rows, each with a weight
abbrev pub Entries : Type 0
Entries = List (Row × Ratio)

-- the rows of entries
abbrev pub rows_of : Entries → List Row
rows_of es = map (λ e. e.0) es

-- each row is below the next
abbrev pub AreRising : List Row → Type 0
AreRising xs = IsStrictlySortedBy row_cmp xs

-- no weight is 0
abbrev pub NoneZero : Entries → Type 0
NoneZero es = AllByRecursion (λ e. e.1 ≢ zero_ratio) es

-- q is 0
abbrev pub is_zero : Ratio → Bool
is_zero q = int_eq q.num (pos 0)

-- how many rows have a weight because of w: 1, or 0 where w is 0
abbrev pub row_count : Ratio → ℕ
row_count w = if is_zero w then 0 else 1

-- the weight of the first entry of the row x, 0 where there is none
abbrev pub weight_in : Entries → Row → Ratio
weight_in es x = unwrap_or (lookup (same_row x) es) zero_ratio

-- the entry of x with weight w in front, or none where w is 0
abbrev pub in_front : Row → Ratio → Entries → Entries
in_front x w es = if is_zero w then es else (x, w) ∷ es

-- rising entries with the weight of x set to w, and with no entry of x where w is 0
abbrev pub set_in : Row → Ratio → Entries → Entries
set_in x w [] = in_front x w []
set_in x w (e ∷ es) = match_ordering (row_cmp x e.0) (in_front x w (e ∷ es)) (in_front e.0 w es) (e ∷ set_in x w es)
