-- What is kept of a line tells its number.
use Rattle.std.proofs.Common.{◌≡◌, ℕ, ◌+◌, ◌-◌, ◌<◌, ◌≤◌, zero, suc, false, List, [], ◌∷◌, ◌++◌, length, take, drop, None, eqb, inl, inr, refl, ap, length-drop, nat_le, nat_lt, arith}
use Rattle.std.specs.Prelude.{slice_index, ◌&&◌}
use Rattle.std.specs.Str.Parse.{signed_digits_value, starts_with_minus, without_leading_plus, without_leading_sign}
use Rattle.std.specs.Char.{is_ascii_digit}
use Rattle.std.specs.List.{list_all}
use Rattle.std.proofs.lemmas.Bool.{and_left, and_right, cases_lt, cond_both, lt-leb}
use Rattle.std.proofs.lemmas.List.{length-take-le, take_all}
use Rattle.line_runs.specs.Lines.{without_cr}
use Rattle.numerals.specs.Numerals.{is_short_numeral}
use Rattle.record_text.specs.FieldAtoms.{int_of_field, is_i64, is_int_field}
use Rattle.noise_lines.specs.Lines.{front_len, number_of}

-- one more byte of a line of which the front is kept
pub front-push : (n : ℕ) (line : List ℕ) (byte : ℕ) → take n (take n line ++ byte ∷ []) ≡ take n (line ++ byte ∷ [])
front-push zero line byte = refl
front-push (suc n) [] byte = refl
front-push (suc n) (first ∷ line) byte = ap (λ rest. first ∷ rest) (front-push n line byte)

-- a sign is one byte
length-without_sign : (field : List ℕ) → length field ≤ length (without_leading_sign field) + 1
length-without_sign field =
    cond_both (starts_with_minus field) (drop 1 field) (without_leading_plus field) (λ rest. length field ≤ length rest + 1)
    (λ minus. omega (arith, length-drop 1 field))
    (λ none. cond_both (eqb (slice_index field 0) 43) 1 0 (λ k. length field ≤ length (drop k field) + 1)
    (λ plus. omega (arith, length-drop 1 field)) (λ none. omega (arith, length-drop 0 field)))

-- a number has at most 20 bytes
int_of_field-long : (field : List ℕ) → 20 < length field → int_of_field field ≡ None
int_of_field-long field long =
    let digits = without_leading_sign field in
    let over : nat_le (length digits) 19 ≡ false = lt-leb _ _ (omega (arith, length-without_sign field)) in
    let none : is_int_field field ≡ false =
    and_left (is_short_numeral digits) (is_i64 (signed_digits_value 10 field))
    (and_left (nat_lt 0 (length digits) && nat_le (length digits) 19) (list_all is_ascii_digit digits)
    (and_right (nat_lt 0 (length digits)) (nat_le (length digits) 19) over)) in
    rw none refl

-- a CR is one byte
length-without_cr : (line : List ℕ) → length line ≤ length (without_cr line) + 1
length-without_cr line =
    cond_both (eqb (slice_index line (length line - 1)) 13) (take (length line - 1) line) line
    (λ rest. length line ≤ length rest + 1)
    (λ cr. omega (arith, length-take-le (length line - 1) line (omega arith))) (λ none. omega arith)

-- the number of a line is that of its front
pub number_of-front : (line : List ℕ) → number_of (take front_len line) ≡ number_of line
number_of-front line =
    elim (cases_lt front_len (length line)) [
      | inl long ↦
          let front = take front_len line in
          let kept : length front ≡ front_len = length-take-le front_len line (omega arith) in
          let none : int_of_field (without_cr front) ≡ None =
          int_of_field-long (without_cr front) (omega (arith, length-without_cr front)) in
          let none' : int_of_field (without_cr line) ≡ None =
          int_of_field-long (without_cr line) (omega (arith, length-without_cr line)) in
          rw (none, none') refl
      | inr short ↦ ap number_of (take_all front_len line short)
    ]
