-- What the getters of a match read, by its rows.
use Rattle.std.proofs.Common.{◌≡◌, Bool, true, false, Option, Some, None, refl, sym, ◌∙◌}
use Rattle.std.specs.Option.{option_map_or, unwrap_or}
use Rattle.std.specs.Str.{bytes_eq}
use Rattle.std.specs.Str.Parse.{ParsesBool, true_text}
use Rattle.std.proofs.lemmas.Bool.{false_from_ne_true}
use Rattle.std.proofs.lemmas.Slice.Eq.{bytes_eq-Decides}
use Rattle.clap.specs.Words.{Text, ReadsOne, first_of, first_value, one_of, one_text, rows_of}
use Rattle.clap.specs.declared.parser.matches.Found.{Found}
use Rattle.clap.proofs.WalkLemmas.{first_value-rows, one_text-rows}
use Rattle.program_words.specs.Words.{is_set}

-- `get_str`
pub first_of-got : (found : Found) (id : Text) (got : Option Text) → got ≡ first_value found id → first_of id (rows_of found) ≡ got
first_of-got found id got is = sym (first_value-rows found id) ∙ sym is

-- another text than `true` sets no flag
unset : (text : Text) → (text ≡ true_text → ⊥) → false ≡ bytes_eq true_text text
unset text other = sym (false_from_ne_true _ (λ e. other (sym ((bytes_eq-Decides true_text text).0 e))))

-- the text of a flag, and what `get_one` reads of it
read_flag : (E : Type 0) (text : Option Text) (got : Option Bool) → (text ≡ None → got ≡ None)
    → ((t : Text) → text ≡ Some t → ReadsOne (ParsesBool {E = E}) t got) → unwrap_or got false ≡ option_map_or (bytes_eq true_text) text false
read_flag E None got none some = rw (none refl) refl
read_flag E (Some t) None none some = unset t (some t refl).1.0
read_flag E (Some t) (Some true) none some = rw (some t refl) refl
read_flag E (Some t) (Some false) none some = rw (some t refl) refl

-- `get_one`, of a flag
pub is_set-got : (E : Type 0) (found : Found) (id : Text) (got : Option Bool) → (one_text found id ≡ None → got ≡ None)
    → ((t : Text) → one_text found id ≡ Some t → ReadsOne (ParsesBool {E = E}) t got) → unwrap_or got false ≡ is_set id (rows_of found)
is_set-got E found id got none some =
    read_flag E (one_of id (rows_of found)) got (λ e. none (one_text-rows found id ∙ e)) (λ t e. some t (one_text-rows found id ∙ e))
