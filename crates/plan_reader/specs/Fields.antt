-- The fields of a plan and of its steps: what each denotes, or its fault.
use Rattle.std.specs.Prelude.{ℕ, ◌==◌, ◌&&◌, nat_le, nat_lt, List, codes, if◌then◌else◌, Option, Some, None, option_and_then, ⊤, Result, Ok}
use Rattle.serde_json.specs.Data.{Data, Members}
use Rattle.serde_json.specs.Find.{get, as_str, as_number, as_u64}
use Rattle.record_text.specs.Names.{name_of}
use Rattle.expr_text.specs.declared.fault.Field.TheVariants as field
use Rattle.expr_text.specs.declared.fault.Place.{Place}
use Rattle.expr_text.specs.declared.fault.PlanText.{PlanText}
use Rattle.expr_text.specs.Fields.{place, or_shape, has_only}
use Rattle.expr_text.specs.Gives.{shape}

-- the object has no field but these, or the fault is that of this place
abbrev pub only : Place → List (List ℕ) → Members → Result ⊤ PlanText
only p names ms = if has_only names ms then Ok tt else shape p

-- the step has no field but these
abbrev pub no_other : ℕ → List (List ℕ) → Members → Result ⊤ PlanText
no_other step names ms = only (place step field.Other) names ms

-- ---- whole numbers

-- the whole number of a field
abbrev pub whole_of : List ℕ → Data → Option ℕ
whole_of key d = option_and_then as_u64 (option_and_then as_number (get key d))

-- the number 1
abbrev one : ℕ → Option ⊤
one n = if n == 1 then Some tt else None

abbrev pub format_in : Data → Result ⊤ PlanText
format_in d = or_shape (place 0 field.Format) (option_and_then one (whole_of (codes "format") d))

-- a number from the least to the most
abbrev pub within : ℕ → ℕ → ℕ → Option ℕ
within least most n = if nat_le least n && nat_le n most then Some n else None

-- the whole number of a field, from the least to the most
abbrev pub whole_in : Place → List ℕ → ℕ → ℕ → Data → Result ℕ PlanText
whole_in p key least most d = or_shape p (option_and_then (within least most) (whole_of key d))

-- an earlier step
abbrev pub earlier : ℕ → ℕ → Option ℕ
earlier step n = if nat_lt n step then Some n else None

-- the earlier step of a field
abbrev pub earlier_in : Place → List ℕ → Data → Result ℕ PlanText
earlier_in p key d = or_shape p (option_and_then (earlier p.step) (whole_of key d))

-- ---- names

-- the name of a source
abbrev pub name_in : ℕ → Data → Result (List ℕ) PlanText
name_in step d = or_shape (place step field.Name) (option_and_then name_of (option_and_then as_str (get (codes "name") d)))
