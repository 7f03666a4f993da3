-- The sources that plans read, by name.
use Rattle.std.specs.Prelude.{ℕ, Bool, ◌&&◌, true, not, List, [], ◌∷◌, Option}
use Rattle.std.specs.List.{list_any, position}
use Rattle.record_text.specs.Names.{name_eq}
use Rattle.plan_model.specs.declared.source_types.SourceType.{SourceType}

-- the place of the source of a name, if there is one
abbrev pub place_of : List ℕ → List SourceType → Option ℕ
place_of name types = position (λ t. name_eq name t.name) types

-- some source has the name
abbrev pub has_name : List SourceType → List ℕ → Bool
has_name types name = list_any (λ t. name_eq name t.name) types

-- no two sources have one name
abbrev pub are_distinct : List SourceType → Bool
are_distinct [] = true
are_distinct (t ∷ types) = not (has_name types t.name) && are_distinct types
