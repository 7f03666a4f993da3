-- What is known of every object that was read.
use Rattle.std.specs.Prelude.{◌≡◌, ℕ, List, [], ◌∷◌, Some, ⊤}
use Rattle.std.specs.Cmp.Lexicographic.{slice_cmp}
use Rattle.std.specs.Ordering.{nat_cmp}
use Rattle.std.specs.declared.cmp.Ordering.TheVariants.{Less}
use Rattle.serde_json.specs.Data.{Data, Members}
use Rattle.serde_json.specs.Find.{as_object}
use Rattle.serde_json.specs.Read.{read}
use Rattle.json_fields.specs.Fields.{keys_in}

-- each key is below the next in byte order
abbrev pub Rises : List (List ℕ) → Type 0
Rises [] = ⊤
Rises (k ∷ []) = ⊤
Rises (k ∷ l ∷ ks) = (slice_cmp nat_cmp k l ≡ Less) × Rises (l ∷ ks)

-- the keys of an object that was read rise
abbrev pub KeysRise : Type 0
KeysRise = (text : List ℕ) (d : Data) (ms : Members) → read text ≡ Some d → as_object d ≡ Some ms → Rises (keys_in ms)
