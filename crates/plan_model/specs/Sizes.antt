-- The limits of plans, as numbers.
use Rattle.std.specs.Prelude.{ℕ}

-- the most columns of a row, and the most expressions that make one
abbrev pub max_width : ℕ
max_width = 16

-- how deep an expression may be
abbrev pub max_depth : ℕ
max_depth = 16

-- the most columns, constants and calls of an expression
abbrev pub max_nodes : ℕ
max_nodes = 256

-- the greatest number of a column in an expression or a reducer
abbrev pub max_column : ℕ
max_column = 255

-- the most items of a step
abbrev pub max_items : ℕ
max_items = 64

-- the most pieces of a step
abbrev pub max_pieces : ℕ
max_pieces = 4096

-- the most steps of a plan
abbrev pub max_steps : ℕ
max_steps = 64
