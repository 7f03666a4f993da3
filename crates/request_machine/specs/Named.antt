-- Sources and plans by name.
use Rattle.std.specs.Prelude.{ℕ, Bool, List, Option, find, position}
use Rattle.std.specs.List.{position_or_len}
use Rattle.record_text.specs.Names.{name_eq}
use Rattle.request_machine.specs.State.{PlanState, SourceState}

-- whether one has this name, where `name_of` tells the names
abbrev pub is_named : {X : Type 0} → (X → List ℕ) → List ℕ → X → Bool
is_named name_of name x = name_eq name (name_of x)

-- the first of this name
abbrev pub first_named : {X : Type 0} → (X → List ℕ) → List ℕ → List X → Option X
first_named name_of name xs = find (is_named name_of name) xs

-- the place of the first of this name
abbrev pub place_named : {X : Type 0} → (X → List ℕ) → List ℕ → List X → Option ℕ
place_named name_of name xs = position (is_named name_of name) xs

-- the place of the first of this name, or else the length
abbrev pub index_named : {X : Type 0} → (X → List ℕ) → List ℕ → List X → ℕ
index_named name_of name xs = position_or_len (is_named name_of name) xs

abbrev pub source_name : SourceState → List ℕ
source_name source = source.name

abbrev pub plan_name : PlanState → List ℕ
plan_name plan = plan.name
