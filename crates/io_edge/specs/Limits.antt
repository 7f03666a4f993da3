-- The limits of what is asked of devices.
use Rattle.std.specs.Prelude.{ℕ, ◌^◌}

-- the greatest epsilon of a draw, in millionths
abbrev pub max_epsilon : ℕ
max_epsilon = 1000000000

-- what is asked of a file is less than this many bytes
abbrev pub fetch_limit : ℕ
fetch_limit = 2 ^ 40

-- the most bytes of a path
abbrev pub max_path : ℕ
max_path = 200
