-- The items that a value denotes, or the first fault of their walk. All faults name one field of the step.
use Rattle.std.specs.Prelude.{ℕ, nat_le, List, [], ◌∷◌, length, codes, if◌then◌else◌, Option, Some, None, Result, Ok}
use Rattle.serde_json.specs.Data.{Data}
use Rattle.serde_json.specs.Find.{get, as_object}
use Rattle.json_fields.specs.Walk.{◌>>=◌, each}
use Rattle.plan_model.specs.declared.expr.Expr.{Expr}
use Rattle.plan_model.specs.declared.step.Item.{Item}
use Rattle.plan_model.specs.Limits.{max_item_weight}
use Rattle.plan_model.specs.Sizes.{max_items}
use Rattle.expr_text.specs.declared.fault.Limit.TheVariants as limit
use Rattle.expr_text.specs.declared.fault.Place.{Place}
use Rattle.expr_text.specs.declared.fault.PlanText.{PlanText}
use Rattle.expr_text.specs.Exprs.{expr_in, exprs_in}
use Rattle.expr_text.specs.Fields.{or_shape, list_in}
use Rattle.expr_text.specs.Gives.{over}
use Rattle.plan_reader.specs.Fields.{only, whole_in}

-- a guard, which may be absent
abbrev pub guard_in : Place → Option Data → Result (Option Expr) PlanText
guard_in p None = Ok None
guard_in p (Some d) = do
  test ← expr_in p d
  Ok (Some test)

-- the fields of an item
abbrev pub item_fields : List (List ℕ)
item_fields = codes "weight" ∷ codes "if" ∷ codes "row" ∷ []

-- the item of these parts
abbrev pub item_of : ℕ → Option Expr → List Expr → Item
item_of w test es = record { weight = w; guard = test; row = es }

-- an item: its fields in their order, and then a field that it doesn't have
unfoldable pub item_in : Place → Data → Result Item PlanText
item_in p d = do
  ms ← or_shape p (as_object d)
  w ← whole_in p (codes "weight") 0 max_item_weight d
  test ← guard_in p (get (codes "if") d)
  es ← exprs_in p (get (codes "row") d)
  known ← only p item_fields ms
  Ok (item_of w test es)

-- an item of a list, which is told its place
abbrev pub item_at : Place → ℕ → Data → Result Item PlanText
item_at p i d = item_in p d

-- at most 64
abbrev pub few_items : Place → List Data → Result (List Data) PlanText
few_items p ds = if nat_le (length ds) max_items then Ok ds else over p.step limit.Items

-- 1 to 64 items
unfoldable pub items_in : Place → Option Data → Result (List Item) PlanText
items_in p found = do
  ds ← list_in p found
  members ← few_items p ds
  each (item_at p) 0 members
