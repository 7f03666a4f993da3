-- Fields that are numbers, or texts.
use Rattle.std.proofs.Common.{◌≡◌, ℕ, ◌<◌, ◌≤◌, true, false, cond, List, [], ◌∷◌, length, drop, ℤ, pos, negsuc, Some, None, Result, Ok, Err, refl, ap, arith, nat_le, nat_lt, ◌==◌, ltb-true, leb-true, lt-ltb, le-leb, eqb-true, w64}
use Rattle.std.specs.Prelude.{FitsSigned}
use Rattle.std.specs.Char.{is_ascii_digit}
use Rattle.std.specs.List.{list_all}
use Rattle.std.specs.Result.{result_ok}
use Rattle.std.specs.Str.{IsAscii, IsUtf8, is_utf8}
use Rattle.std.specs.Str.Parse.{IsNumeral, ParsesSigned, signed_digits_value, without_leading_sign}
use Rattle.std.proofs.lemmas.Bool.{and_from, and_parts}
use Rattle.std.proofs.lemmas.Bool.Decides.{nat_tests}
use Rattle.std.proofs.lemmas.Str.{IsUtf8-from_ascii, IsUtf8-from_is_utf8, is_utf8-from_IsUtf8}
use Rattle.std.proofs.lemmas.Str.Ascii.{IsAscii-nil, IsAscii-cons}
use Rattle.numerals.specs.Numerals.{is_short_numeral}
use Rattle.numerals.proofs.Digits.{ascii_digits}
use Rattle.record_text.specs.FieldAtoms.{is_i64, is_int_field, int_of_field, text_of_field}
use Rattle.record_text.specs.declared.atom.Atom.TheVariants.{Text}
use Rattle.record_text.specs.declared.field.AtomFault.TheVariants as fault
use Rattle.record_text.proofs.Bytes.{IsAscii-passed}

-- ---- numbers

IsNumeral-short : (digits : List ℕ) → is_short_numeral digits ≡ true → IsNumeral 10 digits
IsNumeral-short digits short =
    (ltb-true 0 (length digits) (and_parts _ (nat_le (length digits) 19) (and_parts _ (list_all is_ascii_digit digits) short).0).0, ascii_digits.to digits (and_parts _ _ short).1)

is_ascii_digit-small : (byte : ℕ) → is_ascii_digit byte ≡ true → byte < 128
is_ascii_digit-small byte passed = grind (arith, nat_tests)

-- a sign is ASCII
IsAscii-signed : (field : List ℕ) → IsAscii (without_leading_sign field) → IsAscii field
IsAscii-signed [] ascii = IsAscii-nil
IsAscii-signed (byte ∷ bytes) ascii =
    elim (byte == 45) as (λ minus. byte == 45 ≡ minus → IsAscii (cond minus bytes (drop (cond (byte == 43) 1 0) (byte ∷ bytes))) → IsAscii (byte ∷ bytes)) [
      | true ↦ λ minus rest. let is : byte ≡ 45 = eqb-true byte 45 minus in IsAscii-cons byte bytes (omega arith) rest
      | false ↦ λ minus. elim (byte == 43) as (λ plus. byte == 43 ≡ plus → IsAscii (drop (cond plus 1 0) (byte ∷ bytes)) → IsAscii (byte ∷ bytes)) [
        | true ↦ λ plus rest. let is : byte ≡ 43 = eqb-true byte 43 plus in IsAscii-cons byte bytes (omega arith) rest
        | false ↦ λ plus whole. whole
      ] refl
    ] refl ascii

pub IsUtf8-numeral : (field : List ℕ) → is_short_numeral (without_leading_sign field) ≡ true → IsUtf8 field
IsUtf8-numeral field short =
    IsUtf8-from_ascii field (IsAscii-signed field (IsAscii-passed is_ascii_digit is_ascii_digit-small (without_leading_sign field) (and_parts _ _ short).1))

is_i64-fits : (z : ℤ) → FitsSigned w64 z → is_i64 z ≡ true
is_i64-fits (pos n) held = lt-ltb _ _ held.sfits
is_i64-fits (negsuc n) held = lt-ltb _ _ held.sfits

fits-is_i64 : (z : ℤ) → is_i64 z ≡ true → FitsSigned w64 z
fits-is_i64 (pos n) small = record { sfits = ltb-true _ _ small }
fits-is_i64 (negsuc n) small = record { sfits = ltb-true _ _ small }

short-IsNumeral : (digits : List ℕ) → IsNumeral 10 digits → length digits ≤ 19 → is_short_numeral digits ≡ true
short-IsNumeral digits numeral few =
    and_from _ _ (and_from _ _ (lt-ltb 0 (length digits) numeral.0) (le-leb _ _ few)) (ascii_digits.from digits numeral.1)

pub short-length : (digits : List ℕ) → is_short_numeral digits ≡ true → length digits ≤ 19
short-length digits short = leb-true _ _ (and_parts (nat_lt 0 (length digits)) _ (and_parts _ (list_all is_ascii_digit digits) short).0).1

-- what `parse` gives for a field of at most 19 digits
pub parsed : {E : Type 0} (field : List ℕ) (read : Result ℤ E) → length (without_leading_sign field) ≤ 19
    → ParsesSigned w64 10 field read → result_ok read ≡ int_of_field field
parsed field (Ok z) few is =
    let short : is_short_numeral (without_leading_sign field) ≡ true = short-IsNumeral _ is.0.0 few in
    rw (short, is_i64-fits (signed_digits_value 10 field) is.0.1) (ap Some is.1)
parsed field (Err e) few is =
    elim (is_int_field field) as (λ b. is_int_field field ≡ b → None ≡ int_of_field field) [
      | true ↦ λ held. absurd (is (IsNumeral-short _ (and_parts _ (is_i64 (signed_digits_value 10 field)) held).0, fits-is_i64 _ (and_parts _ _ held).1))
      | false ↦ λ none. rw none refl
    ] refl

-- ---- texts

pub text_of_field-broken : (field : List ℕ) → ¬ IsUtf8 field → text_of_field field ≡ Err fault.NotUtf8
text_of_field-broken field broken =
    let refused : is_utf8 field ≡ false =
    elim (is_utf8 field) as (λ b. is_utf8 field ≡ b → b ≡ false) [ true ↦ λ e. absurd (broken (IsUtf8-from_is_utf8 field e)) | false ↦ λ e. refl ] refl in
    rw refused refl

pub text_of_field-long : (field : List ℕ) → IsUtf8 field → 255 < length field → text_of_field field ≡ Err fault.TextLong
text_of_field-long field text long =
    let over : nat_le (length field) 255 ≡ false = grind (arith, nat_tests) in
    rw (is_utf8-from_IsUtf8 field text, over) refl

pub text_of_field-short : (field : List ℕ) → IsUtf8 field → length field ≤ 255 → text_of_field field ≡ Ok (Text field)
text_of_field-short field text short = rw (is_utf8-from_IsUtf8 field text, le-leb _ _ short) refl
