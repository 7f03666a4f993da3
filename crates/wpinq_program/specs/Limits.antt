-- The limits of a run.
use Rattle.std.specs.Prelude.{ℕ, ◌+◌, List, take}
use Rattle.request_machine.specs.Limits.{max_line}

-- the size of the buffer that a piece of the input is read into
abbrev pub piece_len : ℕ
piece_len = 65536

-- how many bytes of a line are kept: one past the limit, and a CR that is dropped at the end,
-- so that what is kept of an overlong line is overlong
abbrev pub kept_len : ℕ
kept_len = max_line + 2

-- what is kept of a line that isn't whole yet
unfoldable pub kept_of : List ℕ → List ℕ
kept_of line = take kept_len line
