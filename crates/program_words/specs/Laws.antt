-- What some words mean.
use Rattle.std.specs.Prelude.{◌≡◌, ◌≤◌, ◌^◌, ◌++◌, ℕ, Bool, true, false, List, [], ◌∷◌, codes, Option, None, Some, option_map, is_some, not, IfSome}
use Rattle.std.specs.List.{list_all}
use Rattle.program_words.specs.Numbers.{number_up_to}
use Rattle.program_words.specs.Words.{options_of}
use Rattle.program_words.specs.declared.options.Options.{Options}

-- the options with this flag, this size of the demo and this limit
abbrev pub options : Bool → Option ℕ → ℕ → Options
options curator demo max_bytes = record { curator = curator; demo = demo; max_bytes = max_bytes }

-- the words give these options
abbrev pub Gives : List (List ℕ) → Bool → Option ℕ → ℕ → Type 0
Gives words curator demo max_bytes = options_of words ≡ Some (options curator demo max_bytes)

-- no words close exact answers, read the input and take 2^40 bytes of it
abbrev pub NoWords : Type 0
NoWords = Gives [] false None (2 ^ 40)

-- each option changes its own part, and they stand in any order
abbrev pub WorkedWords : Type 0
WorkedWords = Gives (codes "--curator" ∷ []) true None (2 ^ 40)
    × Gives (codes "--demo" ∷ codes "20" ∷ []) false (Some 20) (2 ^ 40)
    × Gives (codes "--max-bytes" ∷ codes "5" ∷ []) false None 5
    × Gives (codes "--max-bytes=1099511627776" ∷ codes "--curator" ∷ codes "--demo=1" ∷ []) true (Some 1) (2 ^ 40)

-- unknown words, help and the version, a stray word, a repeated word, a missing value and a value too many
abbrev pub FaultyWords : Type 0
FaultyWords = list_all (λ words. not (is_some (options_of words))) (
    (codes "--nothing" ∷ []) ∷ (codes "--help" ∷ []) ∷ (codes "-h" ∷ []) ∷ (codes "--version" ∷ []) ∷ (codes "help" ∷ [])
    ∷ (codes "--curator" ∷ codes "--curator" ∷ []) ∷ (codes "--demo" ∷ []) ∷ (codes "--demo" ∷ codes "--curator" ∷ [])
    ∷ (codes "--curator=true" ∷ []) ∷ (codes "" ∷ []) ∷ []) ≡ true

-- any text may follow `--demo=`, and is read as a number from 1 to 20
abbrev pub DemoValue : Type 0
DemoValue = (text : List ℕ) → options_of ((codes "--demo=" ++ text) ∷ [])
    ≡ option_map (λ number. options false (Some number) (2 ^ 40)) (number_up_to 20 text)

-- any text may follow `--max-bytes=`, and is read as a number from 1 to 2^40
abbrev pub MaxBytesValue : Type 0
MaxBytesValue = (text : List ℕ) → options_of ((codes "--max-bytes=" ++ text) ∷ [])
    ≡ option_map (options false None) (number_up_to (2 ^ 40) text)

-- the least and the most number, then 0, one too many, and texts that aren't plain digits
abbrev pub WorkedNumbers : Type 0
WorkedNumbers = (number_up_to 20 (codes "1") ≡ Some 1) × (number_up_to 20 (codes "20") ≡ Some 20)
    × (list_all (λ text. not (is_some (number_up_to 20 text))) (codes "0" ∷ codes "21" ∷ codes "" ∷ codes "+5" ∷ codes "-5" ∷ codes "007"
    ∷ codes " 5" ∷ codes "5 " ∷ codes "1e1" ∷ codes "100000000000000000005" ∷ []) ≡ true)

-- the size of a demo is from 1 to 20, and the limit at most 2^40
pub record IsWithinLimits (options : Options) : Type 0 where
  pub demo : IfSome options.demo (λ n. (1 ≤ n) × (n ≤ 20))
  pub max_bytes : options.max_bytes ≤ 2 ^ 40

-- all options that words give are within these
abbrev pub OptionsWithinLimits : Type 0
OptionsWithinLimits =
    (words : List (List ℕ)) (options : Options) → options_of words ≡ Some options → IsWithinLimits options
