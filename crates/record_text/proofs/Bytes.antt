-- Bytes that are ASCII.
use Rattle.std.proofs.Common.{◌≡◌, ℕ, ◌<◌, Bool, true, List, [], ◌∷◌, arith}
use Rattle.std.specs.List.{list_all}
use Rattle.std.specs.Str.{IsAscii, IsUtf8}
use Rattle.std.proofs.lemmas.Bool.{and_parts}
use Rattle.std.proofs.lemmas.Str.{IsUtf8-from_ascii}
use Rattle.std.proofs.lemmas.Str.Ascii.{IsAscii-nil, IsAscii-cons}
use Rattle.std.proofs.lemmas.Bool.Decides.{nat_tests}
use Rattle.record_text.specs.Names.{is_name_byte, is_name}

-- bytes that all pass a test which only ASCII passes
pub IsAscii-passed : (test : ℕ → Bool) → ((byte : ℕ) → test byte ≡ true → byte < 128) → (bytes : List ℕ) → list_all test bytes ≡ true → IsAscii bytes
IsAscii-passed test small [] all = IsAscii-nil
IsAscii-passed test small (byte ∷ bytes) all =
    IsAscii-cons byte bytes (small byte (and_parts (test byte) (list_all test bytes) all).0) (IsAscii-passed test small bytes (and_parts (test byte) (list_all test bytes) all).1)

is_name_byte-small : (byte : ℕ) → is_name_byte byte ≡ true → byte < 128
is_name_byte-small byte passed = grind (arith, nat_tests)

pub IsUtf8-name : (text : List ℕ) → is_name text ≡ true → IsUtf8 text
IsUtf8-name text named = IsUtf8-from_ascii text (IsAscii-passed is_name_byte is_name_byte-small text (and_parts _ _ named).1)
