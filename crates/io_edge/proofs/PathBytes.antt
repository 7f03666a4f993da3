-- A path is ASCII text.
use Rattle.std.proofs.Common.{◌<◌, [], ◌∷◌, ℕ, List, arith, lit<, subst, sym}
use Rattle.std.specs.Prelude.{All, IsTrue}
use Rattle.std.specs.List.{join_with_byte}
use Rattle.std.specs.Str.{IsAscii, IsUtf8}
use Rattle.std.proofs.lemmas.List.Elements.{All-head, All-tail, All-weaker}
use Rattle.std.proofs.lemmas.Str.{IsAscii-append, IsUtf8-from_ascii}
use Rattle.std.proofs.lemmas.Str.Ascii.{IsAscii-nil, IsAscii-cons, IsAscii-from_all}
use Rattle.io_edge.specs.Path.{is_path, IsPathByte, IsPathPart}
use Rattle.io_edge.proofs.PathTests.{path_decides}

-- the bytes of a path's part are ASCII
small : (byte : ℕ) → IsPathByte byte → byte < 128
small byte is = grind arith

-- a part of a path is ASCII
IsAscii-part : (part : List ℕ) → IsPathPart part → IsAscii part
IsAscii-part part is = IsAscii-from_all part (All-weaker IsPathByte (λ byte. byte < 128) small part is.2)

-- parts with `/` between them are ASCII
IsAscii-join_with_byte : (parts : List (List ℕ)) → All IsPathPart parts → IsAscii (join_with_byte 47 parts)
IsAscii-join_with_byte [] each = IsAscii-nil
IsAscii-join_with_byte (part ∷ []) each = IsAscii-part part (All-head IsPathPart part [] each)
IsAscii-join_with_byte (part ∷ next ∷ parts) each =
    let later = IsAscii-join_with_byte (next ∷ parts) (All-tail IsPathPart part (next ∷ parts) each) in
    IsAscii-append part (47 ∷ join_with_byte 47 (next ∷ parts)) (IsAscii-part part (All-head IsPathPart part (next ∷ parts) each))
    (IsAscii-cons 47 (join_with_byte 47 (next ∷ parts)) (lit< tt) later)

-- a path is UTF-8
pub IsUtf8-path : (path : List ℕ) → IsTrue (is_path path) → IsUtf8 path
IsUtf8-path path tested =
    let parts = ((path_decides path).0 tested).1 in
    IsUtf8-from_ascii path (subst IsAscii (sym parts.3) (IsAscii-join_with_byte parts.0 parts.2))
