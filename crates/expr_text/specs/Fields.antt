-- Fields and lists of a plan's text.
use Rattle.std.specs.Prelude.{ℕ, nat_lt, List, length, Bool, is_none, if◌then◌else◌, Option, Some, None, option_and_then, Result}
use Rattle.serde_json.specs.Data.{Data, Members}
use Rattle.json_fields.specs.Walk.{needed}
use Rattle.json_fields.specs.Fields.{list_of, first_unknown}
use Rattle.expr_text.specs.declared.fault.Field.{Field}
use Rattle.expr_text.specs.declared.fault.Place.{Place}
use Rattle.expr_text.specs.declared.fault.PlanText.{PlanText}
use Rattle.expr_text.specs.declared.fault.PlanText.TheVariants as fault

-- a field of a step
abbrev pub place : ℕ → Field → Place
place step f = record { step = step; field = f }

-- what is there, or the fault of the field
abbrev pub or_shape : {A : Type 0} → Place → Option A → Result A PlanText
or_shape p found = needed (fault.Shape p.step p.field) found

-- the object has no field but these
abbrev pub has_only : List (List ℕ) → Members → Bool
has_only names ms = is_none (first_unknown names ms)

-- the members of a list that isn't empty
abbrev some_of : List Data → Option (List Data)
some_of ds = if nat_lt 0 (length ds) then Some ds else None

abbrev pub list_in : Place → Option Data → Result (List Data) PlanText
list_in p found = or_shape p (option_and_then some_of (option_and_then list_of found))
