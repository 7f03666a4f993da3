-- The limits of a session.
use Rattle.std.specs.Prelude.{ℕ}
pub use Rattle.request_text.specs.Requests.{max_budget, max_line}

-- the most sources
abbrev pub max_sources : ℕ
max_sources = 16

-- the most bytes of a file
abbrev pub max_file : ℕ
max_file = 16777216

-- the most plans
abbrev pub max_plans : ℕ
max_plans = 32
