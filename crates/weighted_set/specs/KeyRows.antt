-- The rows of one key as they are kept: one row in place, or a set of rows.
use Rattle.weighted_set.specs.Held.{HeldDatasets, one_held}
use Rattle.weighted_set.specs.declared.part.KeyRows.{KeyRows}
use Rattle.weighted_set.specs.declared.part.KeyRows.TheVariants.{One, Many}

-- the two datasets of the rows that are kept
abbrev pub datasets_kept : KeyRows → HeldDatasets
datasets_kept (One x h) = one_held x h
datasets_kept (Many set) = set
