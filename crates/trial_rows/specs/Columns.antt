-- Columns of rows.
use Rattle.std.specs.Prelude.{List, [], ◌∷◌}
use Rattle.record_text.specs.declared.kinds.Kind.{Kind}
use Rattle.record_text.specs.declared.kinds.Kind.TheVariants.{Int}

-- the columns of rows of two numbers
abbrev pub two_ints : List Kind
two_ints = Int ∷ Int ∷ []

-- the columns of rows of one number
abbrev pub one_int : List Kind
one_int = Int ∷ []
