-- Lists of JSON members, and loops that read them one by one.
use Rattle.std.proofs.Common.{◌≡◌, ℕ, List, [], ◌∷◌, ◌++◌, map, Result, Ok, Bool, String, Global, string_bytes, refl, ap}
use Rattle.std.specs.List.{list_any}
use Rattle.std.specs.Map.{keys_of}
use Rattle.serde_json.specs.Data.{Data}
use Rattle.serde_json.specs.View.{items_of, members_view}
use Rattle.serde_json.specs.declared.value.Value.{Value}
use Rattle.json_fields.specs.Fields.{data_list, keys_in}
use Rattle.json_fields.specs.Walk.{◌>>=◌}

-- a test of what a list is mapped to
pub any_of_map : {X Y : Type 0} (p : Y → Bool) (h : X → Y) (xs : List X) → list_any p (map h xs) ≡ list_any (λ x. p (h x)) xs
any_of_map p h [] = refl
any_of_map p h (x ∷ xs) = rw (any_of_map p h xs) refl

pub data_list-items_of : (ds : List Data) → data_list (items_of ds) ≡ ds
data_list-items_of [] = refl
data_list-items_of (d ∷ ds) = ap (λ (xs : List Data). d ∷ xs) (data_list-items_of ds)

pub keys_in-members_view : (es : List (String Global × Value)) → keys_in (members_view es) ≡ map string_bytes (keys_of es)
keys_in-members_view [] = refl
keys_in-members_view (e ∷ es) = ap (λ (ks : List (List ℕ)). string_bytes e.0 ∷ ks) (keys_in-members_view es)

-- what a loop has read already, in front of what it reads yet
abbrev pub with_front : {A E : Type 0} → List A → Result (List A) E → Result (List A) E
with_front front read = read >>= λ xs. Ok (front ++ xs)
