-- Digits, in the words of the library.
use Rattle.std.proofs.Common.{◌≡◌, true, rules}
use Rattle.std.specs.Char.{is_ascii_digit}
use Rattle.std.specs.List.{list_all}
use Rattle.std.specs.Str.Parse.{digits_value}
use Rattle.std.proofs.lemmas.Str.Parse.{IsNumeralModel, numerals_by_value}

-- the test of ASCII digits, in the words of `parse`
pub ascii_digits : IsNumeralModel (λ digits. list_all is_ascii_digit digits ≡ true) (digits_value 10)
ascii_digits = numerals_by_value (λ digits. list_all is_ascii_digit digits ≡ true) (search rules)
