-- Lists in replies, as they are written.
use Rattle.std.proofs.Common.{◌≡◌, ℕ, ◌+◌, List, [], ◌∷◌, ◌++◌, map, take, Some, refl}
use Rattle.std.specs.Prelude.{slice_get}
use Rattle.std.proofs.lemmas.List.{map-append, map_more}
use Rattle.std.proofs.lemmas.Option.{slice_get_within, get_or_from_slice_get}
use Rattle.serde_json.specs.Data.{Data}
use Rattle.serde_json.specs.View.{view}
use Rattle.serde_json.specs.declared.value.Value.{Value}

-- the next value is written
pub written-next : {A : Type 0} (f : A → Data) (values : List Value) (xs : List A) (i : ℕ) (value : Value) (x : A) → slice_get xs i ≡ Some x
    → view value ≡ f x → map view values ≡ map f (take i xs) → map view (values ++ value ∷ []) ≡ map f (take (i + 1) xs)
written-next f values xs i value x at one front =
    rw (map-append view values (value ∷ []), front, one, map_more f xs i x (slice_get_within xs i x at), get_or_from_slice_get xs i x x at) refl
