-- The fields of a JSON object, and the members of a JSON list.
use Rattle.std.specs.Prelude.{ℕ, List, [], ◌∷◌, Bool, find, not, is_some, Option, option_map}
use Rattle.std.specs.List.{list_any}
use Rattle.std.specs.Str.{bytes_eq}
use Rattle.serde_json.specs.Data.{Data, Items, no_items, item, Members, no_members, member}
use Rattle.serde_json.specs.Find.{as_array, as_str}

abbrev pub data_list : Items → List Data
data_list no_items = []
data_list (item d ds) = d ∷ data_list ds

-- the members of a list
abbrev pub list_of : Data → Option (List Data)
list_of d = option_map data_list (as_array d)

abbrev pub is_text : Data → Bool
is_text d = is_some (as_str d)

-- the keys of an object
abbrev pub keys_in : Members → List (List ℕ)
keys_in no_members = []
keys_in (member k d ms) = k ∷ keys_in ms

abbrev pub is_none_of : List (List ℕ) → List ℕ → Bool
is_none_of known key = not (list_any (λ name. bytes_eq name key) known)

-- the first key that is none of the known ones
abbrev pub first_unknown : List (List ℕ) → Members → Option (List ℕ)
first_unknown known ms = find (is_none_of known) (keys_in ms)
