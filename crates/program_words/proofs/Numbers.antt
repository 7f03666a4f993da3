-- What `parse` reads of a text without a sign or a leading zero.
use Rattle.std.proofs.Common.{◌≡◌, ℕ, ◌<◌, ◌≤◌, ◌^◌, ◌&&◌, true, false, cond, List, [], ◌∷◌, length, drop, ◌==◌, Option, Some, None, Result, Ok, Err, refl, ap, sym, ◌∙◌, subst, arith, nat_le, leb-true, eqb-true}
use Rattle.std.specs.Bool.{then_some}
use Rattle.std.specs.Prelude.{option_and_then}
use Rattle.std.specs.Result.{result_ok}
use Rattle.std.specs.Str.Parse.{IsNumeral, ParsesUnsigned, digits_value, without_leading_plus}
use Rattle.std.proofs.lemmas.Bool.{and_from, and_parts, true≢false}
use Rattle.numerals.proofs.Digits.{ascii_digits}
use Rattle.program_words.specs.Numbers.{begins_from_one, is_counting_number, number_up_to}

-- such a text has no plus, and is not empty
without_plus : (text : List ℕ) → begins_from_one text ≡ true → (without_leading_plus text ≡ text) × (0 < length text)
without_plus [] begins = absurd (true≢false (sym begins))
without_plus (byte ∷ bytes) begins =
    let least : 49 ≤ byte = leb-true 49 byte (and_parts _ (nat_le byte 57) begins).0 in
    elim (byte == 43) as (λ plus. byte == 43 ≡ plus → (drop (cond plus 1 0) (byte ∷ bytes) ≡ byte ∷ bytes) × (0 < length (byte ∷ bytes))) [
      | true ↦ λ plus. let is : byte ≡ 43 = eqb-true byte 43 plus in absurd (omega arith)
      | false ↦ λ plus. (refl, omega arith)
    ] refl

-- the test of the form, in the words of `parse`
module _ (text : List ℕ) (begins : begins_from_one text ≡ true) where
  numeral : is_counting_number text ≡ true → IsNumeral 10 (without_leading_plus text)
  numeral counts =
      let plain = without_plus text begins in
      subst (IsNumeral 10) (sym plain.0) (plain.1, ascii_digits.to text (and_parts (begins_from_one text) _ counts).1)

  counting : IsNumeral 10 (without_leading_plus text) → is_counting_number text ≡ true
  counting held =
      let digits : IsNumeral 10 text = subst (IsNumeral 10) (without_plus text begins).0 held in
      and_from _ _ begins (ascii_digits.from text digits.1)

  value : digits_value 10 (without_leading_plus text) ≡ digits_value 10 text
  value = ap (digits_value 10) (without_plus text begins).0

  -- a numeral within the limit is read
  read_within : (most : ℕ) → most < 2 ^ 64 → digits_value 10 text ≤ most → digits_value 10 (without_leading_plus text) < 2 ^ 64
  read_within most fits within = omega (arith, value)

-- the number of a text that `parse` reads, or of none, is the number up to the limit
pub number_up_to-read : {E : Type 0} (most : ℕ) (text : List ℕ) (read : Result ℕ E) (number : Option ℕ) → begins_from_one text ≡ true → most < 2 ^ 64
    → ParsesUnsigned 64 10 text read → number ≡ result_ok read → option_and_then (λ n. then_some (nat_le n most) n) number ≡ number_up_to most text
number_up_to-read most text (Ok n) number begins fits parsed is =
    let same : n ≡ digits_value 10 text = parsed.1 ∙ value text begins in
    rw (is, counting text begins parsed.0.0, same) (elim (nat_le (digits_value 10 text) most) as (λ b. then_some b (digits_value 10 text) ≡ cond b (Some (digits_value 10 text)) None) [
      | true ↦ refl
      | false ↦ refl
    ])
number_up_to-read most text (Err e) number begins fits parsed is =
    rw is (elim (is_counting_number text) as (λ b. is_counting_number text ≡ b → None ≡ cond (b && nat_le (digits_value 10 text) most) (Some (digits_value 10 text)) None) [
      | false ↦ λ _. refl
      | true ↦ λ counts. elim (nat_le (digits_value 10 text) most) as (λ b. nat_le (digits_value 10 text) most ≡ b → None ≡ cond b (Some (digits_value 10 text)) None) [
        | false ↦ λ _. refl
        | true ↦ λ within. absurd (parsed (numeral text begins counts, read_within text begins most fits (leb-true _ _ within)))
      ] refl
    ] refl)
