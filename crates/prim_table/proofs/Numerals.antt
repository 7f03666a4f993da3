-- Texts that are numbers.
use Rattle.std.proofs.Common.{◌≡◌, ℕ, ◌≤◌, List, length, ℤ, pos, Result, Ok, Err, ap, w64}
use Rattle.std.specs.Option.{unwrap_or}
use Rattle.std.specs.Result.{result_unwrap_or}
use Rattle.std.specs.Str.Parse.{ParsesSigned, without_leading_sign}
use Rattle.record_text.proofs.Numerals.{parsed}
use Rattle.prim_table.specs.Primitives.{number_of}

-- what `parse` gives for a text with at most 19 digits
pub number_parsed : {E : Type 0} (text : List ℕ) (read : Result ℤ E) → ParsesSigned w64 10 text read
    → length (without_leading_sign text) ≤ 19 → result_unwrap_or read (pos 0) ≡ number_of text
number_parsed {E = E} text (Ok z) is few = ap (λ found. unwrap_or found (pos 0)) (parsed {E = E} text (Ok z) few is)
number_parsed {E = E} text (Err e) is few = ap (λ found. unwrap_or found (pos 0)) (parsed {E = E} text (Err e) few is)
