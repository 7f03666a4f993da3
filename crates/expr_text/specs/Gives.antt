-- Refusals, and what a reader returns beside what the value denotes.
use Rattle.std.specs.Prelude.{◌≡◌, ⊤, ℕ, Result, Ok, Err}
use Rattle.expr_text.specs.declared.fault.Limit.{Limit}
use Rattle.expr_text.specs.declared.fault.Place.{Place}
use Rattle.expr_text.specs.declared.fault.PlanText.{PlanText}
use Rattle.expr_text.specs.declared.fault.PlanText.TheVariants as fault

-- the field is not as it must be
abbrev pub shape : {A : Type 0} → Place → Result A PlanText
shape place = Err (fault.Shape place.step place.field)

-- the step has more than the limit
abbrev pub over : {A : Type 0} → ℕ → Limit → Result A PlanText
over step limit = Err (fault.Over step limit)

-- want of memory may come at any place, and else the fault is the one that is denoted
abbrev pub Fails : {A : Type 0} → PlanText → Result A PlanText → Type 0
Fails fault.Memory denoted = ⊤
Fails (fault.Shape step field) denoted = denoted ≡ Err (fault.Shape step field)
Fails (fault.Over step limit) denoted = denoted ≡ Err (fault.Over step limit)

-- what was returned is what is denoted, unless there was no memory
abbrev pub Gives : {A : Type 0} → Result A PlanText → Result A PlanText → Type 0
Gives (Ok x) denoted = denoted ≡ Ok x
Gives (Err e) denoted = Fails e denoted

-- the same, where the value is seen by `view`
abbrev pub GivesBy : {X A : Type 0} → (X → A) → Result X PlanText → Result A PlanText → Type 0
GivesBy view (Ok x) denoted = denoted ≡ Ok (view x)
GivesBy view (Err e) denoted = Fails e denoted
