-- The lines of a byte stream: cut at LF (10), with one CR (13) dropped at the end of each.
use Rattle.std.specs.Prelude.{◌==◌, ◌-◌, length, take, slice_index, ℕ, List, [], ◌∷◌, ◌++◌, if◌then◌else◌}

-- the line without one CR at its end, if it has one there
abbrev pub without_cr : List ℕ → List ℕ
without_cr line = if slice_index line (length line - 1) == 13 then take (length line - 1) line else line

-- the lines that an LF ends, where `begun` is the line open before these bytes
unfoldable pub whole_lines : List ℕ → List ℕ → List (List ℕ)
whole_lines begun [] = []
whole_lines begun (byte ∷ bytes) =
    if byte == 10 then (without_cr begun ∷ whole_lines [] bytes) else whole_lines (begun ++ byte ∷ []) bytes

-- the line still open after these bytes, where `begun` is the line open before them
unfoldable pub open_line : List ℕ → List ℕ → List ℕ
open_line begun [] = begun
open_line begun (byte ∷ bytes) = if byte == 10 then open_line [] bytes else open_line (begun ++ byte ∷ []) bytes

-- the line that the end of the stream ends: none where nothing is open
abbrev pub last_line : List ℕ → List (List ℕ)
last_line [] = []
last_line (byte ∷ bytes) = without_cr (byte ∷ bytes) ∷ []

-- the lines of a stream that an LF ends
abbrev pub WholeLines : List ℕ → List (List ℕ)
WholeLines bytes = whole_lines [] bytes

-- the lines of a stream, the last of which may lack its LF
abbrev pub Lines : List ℕ → List (List ℕ)
Lines bytes = whole_lines [] bytes ++ last_line (open_line [] bytes)
