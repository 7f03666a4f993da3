-- Which texts are names.
use Rattle.std.specs.Prelude.{◌≡◌, ℕ, Bool, ◌&&◌, ◌||◌, ◌==◌, nat_lt, nat_le, nat_eq, if◌then◌else◌, List, length, Option, Some, None, IsTrue}
use Rattle.std.proofs.Common.{ap}
use Rattle.std.specs.Char.{is_ascii_alphanumeric}
use Rattle.std.specs.Cmp.Lexicographic.{pointwise, bytes_decides}
use Rattle.std.specs.Hash as fed
use Rattle.std.specs.List.{list_all}

-- an ASCII letter, an ASCII digit or `_`, which is 95
abbrev pub is_name_byte : ℕ → Bool
is_name_byte byte = is_ascii_alphanumeric byte || byte == 95

-- 1 to 32 such bytes
abbrev pub is_name : List ℕ → Bool
is_name text = nat_lt 0 (length text) && nat_le (length text) 32 && list_all is_name_byte text

-- the name of a text, where it is one
abbrev pub name_of : List ℕ → Option (List ℕ)
name_of text = if is_name text then Some text else None

-- the same bytes
abbrev pub name_eq : List ℕ → List ℕ → Bool
name_eq = pointwise nat_eq

-- what is written into a hash: the bytes as a slice
abbrev pub name_input : List ℕ → List (List ℕ)
name_input = fed.slice fed.u8

-- equal names hash alike
pub name_input-name_eq : (a b : List ℕ) → IsTrue (name_eq a b) → name_input a ≡ name_input b
name_input-name_eq a b same = ap name_input ((bytes_decides a b).0 same)
