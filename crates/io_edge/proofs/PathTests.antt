-- The test of paths says which bytes are parts of a path with `/` between them.
use Rattle.std.proofs.Common.{◌≡◌, ◌==◌, ◌≤◌, [], ◌∷◌, ℕ, false, List, length, refl, sym, ap, ◌∙◌, arith}
use Rattle.std.specs.Prelude.{All, slice_index, nat_le}
use Rattle.std.specs.Bool.{Decides}
use Rattle.std.specs.List.{join_with_byte, list_all, slice_split}
use Rattle.std.proofs.lemmas.Bool.{leb-true, le-leb}
use Rattle.std.proofs.lemmas.Bool.Decides.{Decides-and, Decides-not, Decides-eqb, Decides-by_and, Decides-like, nat_tests}
use Rattle.std.proofs.lemmas.List.Elements.{All-head, All-same, All-tail, All-weaker}
use Rattle.std.proofs.lemmas.List.Splits.{slice_split_none, slice_split_at, length-slice_split, join_with_byte-slice_split}
use Rattle.io_edge.specs.Limits.{max_path}
use Rattle.io_edge.specs.Path.{is_path_byte, is_path_part, is_path, IsPathByte, IsPathPart, IsPath}

-- the test of a byte
byte_decides : (byte : ℕ) → Decides (is_path_byte byte) (IsPathByte byte)
byte_decides byte = grind (arith, nat_tests)

-- the test of `≤`
le_decides : (a b : ℕ) → Decides (nat_le a b) (a ≤ b)
le_decides a b = (leb-true a b, le-leb a b)

-- the test of a part
part_decides : (part : List ℕ) → Decides (is_path_part part) (IsPathPart part)
part_decides part =
    let bytes : Decides (list_all is_path_byte part) (All IsPathByte part) =
    Decides-by_and is_path_byte IsPathByte (list_all is_path_byte) byte_decides refl (λ _ _. refl) part in
    let begun = Decides-and _ _ (le_decides 1 (length part)) (Decides-not _ (Decides-eqb (slice_index part 0) 46)) in
    Decides-like _ (λ known. (known.0.0, known.0.1, known.1)) (λ known. ((known.0, known.1), known.2)) (Decides-and _ _ begun bytes)

-- the test of the parts
parts_decide : (parts : List (List ℕ)) → Decides (list_all is_path_part parts) (All IsPathPart parts)
parts_decide = Decides-by_and is_path_part IsPathPart (list_all is_path_part) part_decides refl (λ _ _. refl)

-- no byte of a path's part is `/`
slash_free : (byte : ℕ) → IsPathByte byte → (byte == 47) ≡ false
slash_free byte is = grind (arith, nat_tests)

-- parts that are joined by `/` are cut there into the same parts again
slice_split-join_with_byte : (parts : List (List ℕ)) → 1 ≤ length parts → All IsPathPart parts
    → slice_split (λ byte. byte == 47) (join_with_byte 47 parts) ≡ parts
slice_split-join_with_byte [] some each = absurd (omega arith)
slice_split-join_with_byte (part ∷ []) some each =
    slice_split_none (λ byte. byte == 47) part
    (All-weaker IsPathByte (λ byte. (byte == 47) ≡ false) slash_free part (All-head IsPathPart part [] each).2)
slice_split-join_with_byte (part ∷ next ∷ parts) some each =
    slice_split_at (λ byte. byte == 47) part 47 (join_with_byte 47 (next ∷ parts))
    (All-weaker IsPathByte (λ byte. (byte == 47) ≡ false) slash_free part (All-head IsPathPart part (next ∷ parts) each).2)
    refl
    ∙ ap (λ rest. part ∷ rest) (slice_split-join_with_byte (next ∷ parts) (omega arith) (All-tail IsPathPart part (next ∷ parts) each))

-- parts that are joined to a path are cut out of it again
cut_parts : (path : List ℕ) (parts : List (List ℕ)) → 1 ≤ length parts → All IsPathPart parts → path ≡ join_with_byte 47 parts
    → All IsPathPart (slice_split (λ byte. byte == 47) path)
cut_parts path parts some each joined =
    let same = ap (slice_split (λ byte. byte == 47)) joined ∙ slice_split-join_with_byte parts some each in
    All-same IsPathPart _ parts same each

-- the test of a path
pub path_decides : (path : List ℕ) → Decides (is_path path) (IsPath path)
path_decides path =
    let parts = slice_split (λ byte. byte == 47) path in
    let some : 1 ≤ length parts = omega (arith, length-slice_split (λ byte. byte == 47) path) in
    Decides-like _
    (λ known. (known.0, (parts, some, known.1, sym (join_with_byte-slice_split 47 path))))
    (λ known. (known.0, cut_parts path known.1.0 known.1.1 known.1.2 known.1.3))
    (Decides-and _ _ (le_decides (length path) max_path) (parts_decide parts))
