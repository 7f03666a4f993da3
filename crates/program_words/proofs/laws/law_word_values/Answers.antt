use Rattle.std.proofs.Common.{◌≡◌, ◌^◌, ℕ, false, Option, None, Some, refl, option_map}
use Rattle.std.specs.Prelude.{option_and_then}
use Rattle.clap.proofs.OnLiterals.{clap_on_literals}
use Rattle.program_words.specs.Laws.{DemoValue, MaxBytesValue, WorkedNumbers, options}
use Rattle.program_words.specs.Numbers.{number_up_to}
use Rattle.program_words.proofs.WithinLimits.{options_of-limits}
use Rattle.program_words.proofs.laws.law_word_values.Goals as goal

-- the options of a number, if there is one
of_number : (number : Option ℕ) → option_and_then (λ demo. Some (options false demo (2 ^ 40))) (option_map Some number) ≡ option_map (λ n. options false (Some n) (2 ^ 40)) number
of_number None = refl
of_number (Some n) = refl

demo_value : DemoValue
unfolding clap_on_literals
demo_value text = of_number (number_up_to 20 text)

max_bytes_value : MaxBytesValue
unfolding clap_on_literals
max_bytes_value text = refl

worked_numbers : WorkedNumbers
worked_numbers = (refl, refl, refl)

pub returns-clause-demo : goal.returns-clause-demo
returns-clause-demo c = demo_value

pub returns-clause-max_bytes : goal.returns-clause-max_bytes
returns-clause-max_bytes c = max_bytes_value

pub returns-clause-numbers : goal.returns-clause-numbers
returns-clause-numbers c = worked_numbers

pub returns-clause-limits : goal.returns-clause-limits
returns-clause-limits c = options_of-limits
