-- Many: each row is spread over the rows that items make of it.
use Rattle.std.specs.Prelude.{ℕ, Bool, ◌&&◌, List}
use Rattle.std.specs.List.{list_all}
use Rattle.record_text.specs.KindLists.{kinds_eq}
use Rattle.record_text.specs.declared.kinds.Kind.{Kind}
use Rattle.datasets.specs.Dataset.{Dataset, empty}
use Rattle.datasets.specs.Entries.{Row}
use Rattle.operators.specs.InRange.{many_in_range, weights_in_range}
use Rattle.operators.specs.Keys.{shares}
use Rattle.operators.specs.Operators.{spread}
use Rattle.plan_model.specs.Acceptance.{are_ints, guards, have_kinds}
use Rattle.plan_model.specs.Evaluation.{giving}
use Rattle.plan_model.specs.Types.{first_row, kinds_over}
use Rattle.plan_model.specs.declared.step.Item.{Item}
use Rattle.weighted_set.specs.declared.part_op.Side.{Side}
use Rattle.weighted_set.specs.declared.part_op.Side.TheVariants.{Left, Right}

-- a many: what its weights are divided by at least, its items, and the columns of the rows that it takes
pub record ManyParts : Type 0 where
  pub over : ℕ
  pub items : List Item
  pub cols : List Kind

-- the guards are Ints, and the rows of all items have the same kinds
abbrev pub items_have_kinds : List Kind → List Item → Bool
items_have_kinds cols items =
    are_ints cols (guards items)
    && list_all (λ i. have_kinds cols i.row && kinds_eq (kinds_over cols (first_row items)) (kinds_over cols i.row)) items

-- the keys of a row on the left are the rows that the items make of it, with their factors; the right has no keys
abbrev pub many_keys : ManyParts → Side → Row → Dataset
many_keys op Left x = shares op.over (giving op.items) x
many_keys op Right x = empty

-- each product, each running sum at an output row and each output weight is in range
abbrev pub many_fits : ManyParts → Dataset → Bool
many_fits op A = many_in_range op.over (giving op.items) A && weights_in_range (spread op.over (giving op.items) A)
