-- The records of a CSV text that has no double quote.
use Rattle.std.specs.Prelude.{ℕ, ◌==◌, ◌||◌, not, Bool, List, length, map}
use Rattle.std.specs.List.{filter, list_any, slice_split}

abbrev pub is_quote : ℕ → Bool
is_quote c = c == 34

-- whether a text has no double quote
abbrev pub is_plain : List ℕ → Bool
is_plain text = not (list_any is_quote text)

-- whether a byte ends a line
abbrev pub ends_line : ℕ → Bool
ends_line c = (c == 13) || (c == 10)

abbrev pub is_comma : ℕ → Bool
is_comma c = c == 44

abbrev pub has_bytes : List ℕ → Bool
has_bytes line = not (length line == 0)

-- the fields of a line, which stand between its commas
abbrev pub plain_fields : List ℕ → List (List ℕ)
plain_fields line = slice_split is_comma line

-- a record for each line that is not empty
abbrev pub plain_records : List ℕ → List (List (List ℕ))
plain_records text = map plain_fields (filter has_bytes (slice_split ends_line text))
