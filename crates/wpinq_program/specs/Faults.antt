-- Faults of the noise and of the shelf, and the replies that they license.
use Rattle.std.specs.Prelude.{ℕ, ◌+◌, ◌≤◌, List, count_by}
use Rattle.std.specs.Str.{bytes_eq}
use Rattle.io_edge.specs.Causes.{capped}
use Rattle.request_machine.specs.Machine.{file_line, noise_line}

-- the count of faults rose at least so often, or stands at its last value
abbrev pub RoseBy : ℕ → ℕ → ℕ → Type 0
RoseBy n before now = capped (before + n) ≤ now

-- how many of the replies are this one
abbrev pub count_of : List ℕ → List (List ℕ) → ℕ
count_of line replies = count_by (λ reply. bytes_eq reply line) replies

-- how many refuse a measurement for noise
abbrev pub noise_replies : List (List ℕ) → ℕ
noise_replies replies = count_of noise_line replies

-- how many refuse a load for a fault of the shelf
abbrev pub file_replies : List (List ℕ) → ℕ
file_replies replies = count_of file_line replies
