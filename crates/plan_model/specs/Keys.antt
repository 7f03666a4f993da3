-- The keys of the rows of a step's inputs: an operator's output at a key depends on the rows with that key alone.
use Rattle.datasets.specs.Dataset.{Dataset, empty}
use Rattle.datasets.specs.Entries.{Row}
use Rattle.operators.specs.Keys.{one_key, passing_key, shares}
use Rattle.plan_model.specs.declared.step.Step.{Step}
use Rattle.plan_model.specs.Evaluation.{giving, passes, row_of}

-- the keys of a row of the left input with their factors: the row itself, where it passes, at a filter, a shave
-- and a set operator, the rows that are made of it at a select and a many, its key at a join and a group
abbrev pub left_keys : Step → Row → Dataset
left_keys (Step.Source name) x = empty
left_keys (Step.Filter of test) x = passing_key (passes test) x
left_keys (Step.Select of row) x = one_key (row_of row x)
left_keys (Step.Many of over items) x = shares over (giving items) x
left_keys (Step.Shave of runs) x = one_key x
left_keys (Step.Set kind left right) x = one_key x
left_keys (Step.Join left right left_key right_key) x = one_key (row_of left_key x)
left_keys (Step.Group of key reduce) x = one_key (row_of key x)

-- the keys of a row of the right input with their factors, none where there is no right input
abbrev pub right_keys : Step → Row → Dataset
right_keys (Step.Set kind left right) x = one_key x
right_keys (Step.Join left right left_key right_key) x = one_key (row_of right_key x)
right_keys _ x = empty
