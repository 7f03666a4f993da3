-- Parts of texts.
use Rattle.std.proofs.Common.{◌≡◌, ℕ, zero, suc, ◌+◌, ◌-◌, ◌≤◌, ◌≢◌, List, ◌∷◌, length, take, drop, refl, sym, ap, ◌∙◌, arith, ℤ, length-append, take-append-drop}
use Rattle.std.specs.Str.{IsUtf8, chars, encode_utf8_all}
use Rattle.std.proofs.lemmas.Str.{encodes-append, encodes-chars}
use Rattle.prim_table.specs.Primitives.{count_of, text_part}

-- the two sides of a cut together have all bytes
cut_length : (n : ℕ) (cs : List ℕ) → length (encode_utf8_all (take n cs)) + length (encode_utf8_all (drop n cs)) ≡ length (encode_utf8_all cs)
cut_length n cs =
    sym (length-append (encode_utf8_all (take n cs)) (encode_utf8_all (drop n cs)))
    ∙ ap length (sym (encodes-append (take n cs) (drop n cs))) ∙ ap (λ all. length (encode_utf8_all all)) (take-append-drop n cs)

-- a part of a text is no longer than the text
pub part_short : (text : List ℕ) (left_out kept : ℤ) → IsUtf8 text → length (text_part text left_out kept) ≤ length text
part_short text left_out kept utf8 =
    let first = cut_length (count_of left_out) (chars text) in
    let second = cut_length (count_of kept) (drop (count_of left_out) (chars text)) in
    let whole = ap length (encodes-chars text utf8) in
    omega (arith, first, second, whole)

-- a character fewer to leave out, and a character fewer
pub drop_past : (n x : ℕ) (xs : List ℕ) → n ≢ 0 → drop (n - 1) xs ≡ drop n (x ∷ xs)
drop_past zero x xs some = absurd (some refl)
drop_past (suc n) x xs some = let less : suc n - 1 ≡ n = omega arith in rw less refl
