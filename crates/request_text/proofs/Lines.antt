-- The value of a line, as `serde_json` reads it.
use Rattle.std.proofs.Common.{◌≡◌, ℕ, List, true, false, Some, None, IsUtf8, cond, refl}
use Rattle.std.proofs.lemmas.Str.{IsUtf8-from_is_utf8, is_utf8-from_IsUtf8}
use Rattle.std.specs.Str.{is_utf8}
use Rattle.serde_json.specs.Data.{Data}
use Rattle.serde_json.specs.Read.{read}
use Rattle.request_text.specs.Requests.{value_of}

-- a line that was read
pub value_of-read : (line : List ℕ) (d : Data) → IsUtf8 line → read line ≡ Some d → value_of line ≡ Some d
value_of-read line d text is = rw (is_utf8-from_IsUtf8 line text, is) refl

-- a line that is no UTF-8, or is and has no reading
pub value_of-refused : (line : List ℕ) → (IsUtf8 line → read line ≡ None) → value_of line ≡ None
value_of-refused line none =
    elim (is_utf8 line) as (λ b. is_utf8 line ≡ b → cond b (read line) None ≡ None)
    [ true ↦ λ e. none (IsUtf8-from_is_utf8 line e) | false ↦ λ e. refl ] refl
