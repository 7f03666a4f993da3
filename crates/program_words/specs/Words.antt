-- The options that words give.
use Rattle.std.specs.Prelude.{ℕ, Bool, true, false, List, [], ◌∷◌, codes, Option, None, Some, option_map, option_and_then}
use Rattle.std.specs.Option.{option_map_or}
use Rattle.std.specs.Str.{bytes_eq}
use Rattle.clap.specs.Words.{App, Kinds, Row, Rule, fault_of, first_of, matches_of, new_app, new_rule, one_of, with_rule}
use Rattle.clap.specs.Simple.{on_top}
use Rattle.clap.specs.declared.builder.ArgAction.TheVariants.{Set, SetTrue}
use Rattle.program_words.specs.Numbers.{number_up_to}
use Rattle.program_words.specs.declared.options.Options.{Options}

-- the argument of this name with this long form
abbrev pub named : List ℕ → Rule
named name = record (new_rule name) { long = Some name }

-- an argument that is there or not
abbrev pub flag : List ℕ → Rule
flag name = record (named name) { action = Some SetTrue }

-- an argument with one value
abbrev pub option : List ℕ → Rule
option name = record (named name) { action = Some Set }

-- a command without help, whose words have no program's name before them
abbrev pub bare : List ℕ → App
bare name = on_top (λ shape. record shape { no_binary_name = true; disable_help_flag = true }) (new_app name)

-- the command of the program, as clap reads it: one flag and two options
abbrev pub command : App
command = with_rule (with_rule (with_rule (bare (codes "wpinq")) (flag (codes "curator"))) (option (codes "demo"))) (option (codes "max-bytes"))

-- whether the flag is among the matches
abbrev pub is_set : List ℕ → List Row → Bool
is_set name rows = option_map_or (bytes_eq (codes "true")) (one_of name rows) false

-- the size of the demo, from 1 to 20, if the matches have the option
abbrev pub demo_in : List Row → Option (Option ℕ)
demo_in rows = option_map_or (λ text. option_map Some (number_up_to 20 text)) (first_of (codes "demo") rows) (Some None)

-- the most bytes, from 1 to 2^40, and 2^40 where the matches lack the option
abbrev pub max_bytes_in : List Row → Option ℕ
max_bytes_in rows = option_map_or (number_up_to 1099511627776) (first_of (codes "max-bytes") rows) (Some 1099511627776)

-- the options of the matches, unless a number is out of form or range
abbrev pub options_in : List Row → Option Options
options_in rows = option_and_then (λ demo. option_map (λ max_bytes.
    record { curator = is_set (codes "curator") rows; demo = demo; max_bytes = max_bytes }) (max_bytes_in rows)) (demo_in rows)

-- the same where clap finds no fault in the words
abbrev pub unless_fault : Kinds → List Row → Option Options
unless_fault [] rows = options_in rows
unless_fault (kind ∷ kinds) rows = None

-- the options that the words give
abbrev pub options_of : List (List ℕ) → Option Options
options_of words = unless_fault (fault_of command words) (matches_of command words)
