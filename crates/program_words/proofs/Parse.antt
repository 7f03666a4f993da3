-- A parse of the words.
use Rattle.std.proofs.Common.{◌≡◌, true, List, [], ◌∷◌, None, inl, inr, map, refl, ap, ap₂, sym, ◌∙◌, subst}
use Rattle.clap.specs.Words.{App, HasKind, HasMatchesOf, IsAmong, Kinds, Text, fault_of, found_of, is_simple, is_simple_and_free, kind_of, matches_of, rows_of}
use Rattle.clap.specs.declared.error.Error.{Error}
use Rattle.clap.specs.declared.error.kind.ErrorKind.{ErrorKind}
use Rattle.clap.specs.declared.error.kind.ErrorKind.TheVariants.{OutOfMemory}
use Rattle.clap.specs.declared.parser.matches.ArgMatches.{ArgMatches}
use Rattle.program_words.specs.Words.{command, options_in, options_of, unless_fault}

command_is_simple : is_simple command ≡ true
command_is_simple = refl

command_is_free : is_simple_and_free command ≡ true
command_is_free = refl

pub same_texts : (words : List Text) → map (λ word. word) words ≡ words
same_texts [] = refl
same_texts (word ∷ words) = ap (λ rest. word ∷ rest) (same_texts words)

module _ (app : App) (texts words : List Text) (is : app ≡ command) (same : texts ≡ words) where
  -- words without a fault give the options of their matches
  pub options_of-matched : (matches : ArgMatches) → (is_simple_and_free app ≡ true → fault_of app texts ≡ []) → HasMatchesOf app texts matches
      → options_of words ≡ options_in (rows_of (found_of matches))
  options_of-matched matches faultless rows =
      let none : fault_of command words ≡ [] = ap₂ fault_of (sym is) (sym same) ∙ faultless (ap is_simple_and_free is ∙ command_is_free) in
      let found : rows_of (found_of matches) ≡ matches_of command words = (rows (ap is_simple is ∙ command_is_simple)).0 ∙ ap₂ matches_of is same in
      rw (none, found) refl

  no_options : (kinds : Kinds) (kind : ErrorKind) → IsAmong kind kinds → unless_fault kinds (matches_of command words) ≡ None
  no_options [] kind among = absurd among
  no_options (first ∷ rest) kind among = refl

  -- words with a fault give none, unless it is want of memory
  pub options_of-refused : (error : Error) → (is_simple_and_free app ≡ true → HasKind (fault_of app texts) error)
      → (kind_of error ≡ OutOfMemory → ⊥) → options_of words ≡ None
  options_of-refused error has other =
      elim (subst (λ kinds. HasKind kinds error) (ap₂ fault_of is same) (has (ap is_simple_and_free is ∙ command_is_free))) [
        | inl memory ↦ absurd (other memory)
        | inr among ↦ no_options (fault_of command words) (kind_of error) among
      ]
