-- The paths of files.
use Rattle.std.specs.Prelude.{◌≡◌, ◌≢◌, ◌↔◌, ◌≤◌, ◌⊎◌, ◌==◌, ◌&&◌, ◌||◌, ℕ, Bool, List, All, IsTrue, length, nat_le, not, slice_index}
use Rattle.std.specs.Char.{IsAsciiAlphanumeric, is_ascii_alphanumeric}
use Rattle.std.specs.List.{join_with_byte, list_all, slice_split}
use Rattle.io_edge.specs.Limits.{max_path}

-- an ASCII letter or digit, `_`, `-` or `.`
abbrev pub is_path_byte : ℕ → Bool
is_path_byte byte = is_ascii_alphanumeric byte || byte == 95 || byte == 45 || byte == 46

-- a part of a path isn't empty, doesn't begin with `.`, and has only such bytes
abbrev pub is_path_part : List ℕ → Bool
is_path_part part = nat_le 1 (length part) && not (slice_index part 0 == 46) && list_all is_path_byte part

-- a path has at most 200 bytes, and its pieces between `/`s, which is 47, are parts of a path
abbrev pub is_path : List ℕ → Bool
is_path path = nat_le (length path) max_path && list_all is_path_part (slice_split (λ byte. byte == 47) path)

-- an ASCII letter or digit, `_`, `-` or `.`
abbrev pub IsPathByte : ℕ → Type 0
IsPathByte byte = IsAsciiAlphanumeric byte ⊎ (byte ≡ 95) ⊎ (byte ≡ 45) ⊎ (byte ≡ 46)

-- a part of a path isn't empty, doesn't begin with `.`, and has only such bytes
abbrev pub IsPathPart : List ℕ → Type 0
IsPathPart part = (1 ≤ length part) × (slice_index part 0 ≢ 46) × All IsPathByte part

-- a path has at most 200 bytes, and is one or more parts with `/` between them
abbrev pub IsPath : List ℕ → Type 0
IsPath path = (length path ≤ max_path)
    × ((parts : List (List ℕ)) × (1 ≤ length parts) × All IsPathPart parts × (path ≡ join_with_byte 47 parts))

-- the test is true of the paths, and of no other bytes
abbrev pub TestedPaths : Type 0
TestedPaths = (path : List ℕ) → IsTrue (is_path path) ↔ IsPath path
