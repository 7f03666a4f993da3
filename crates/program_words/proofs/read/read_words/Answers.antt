use Rattle.std.proofs.Common.{◌≡◌, Bool, true, false, Option, Some, None, Err, Result, IfOk, inl, refl, ap, sym, ◌∙◌, true≢false}
use Rattle.std.specs.Option.{ok_or}
use Rattle.std.specs.Result.{is_ok}
use Rattle.program_words.specs.Words.{options_of}
use Rattle.program_words.specs.declared.fault.WordsFault.{WordsFault}
use Rattle.program_words.specs.declared.fault.WordsFault.TheVariants as fault
use Rattle.program_words.specs.declared.options.Options.{Options}
use Rattle.program_words.proofs.Parse.{options_of-matched, options_of-refused, same_texts}
use Rattle.program_words.proofs.read.read_words.Goals as goal

-- what a match gives is its options, or the fault where it has none
given : (options : Option Options) (result : Result Options WordsFault) → result ≡ ok_or options fault.Faulty → IfOk result (λ o. options ≡ Some o)
given None result is = rw is tt
given (Some o) result is = rw is refl

refused : (options : Option Options) (result : Result Options WordsFault) → result ≡ ok_or options fault.Faulty → result ≡ Err fault.Faulty → options ≡ None
refused None result is err = refl
refused (Some o) result is err = absurd (true≢false (ap is_ok (sym is ∙ err)))

-- the two faults differ
is_memory : Result Options WordsFault → Bool
is_memory (Err fault.Memory) = true
is_memory _ = false

memory≢faulty : (given : WordsFault) → given ≡ fault.Memory → ◌≡◌ {A = Result Options WordsFault} (Err given) (Err fault.Faulty) → ⊥
unfolding is_memory
memory≢faulty given memory faulty = true≢false (ap (λ (g : WordsFault). is_memory (Err g)) (sym memory) ∙ ap is_memory faulty)

-- the options of the match are those of the words
same : (c : goal.Joined-matches) → options_of c.args.words.now ≡ c.options_in.result
same c = options_of-matched _ _ c.args.words.now c.in_ok-command.ensures (same_texts c.args.words.now) c.in-Ok.matches
    c.in-Ok.ensures.kinds c.in-Ok.ensures.matches ∙ sym c.options_in.ensures

pub returns-in-Ok-clause-options : goal.returns-in-Ok-clause-options
returns-in-Ok-clause-options c = rw (same c) (given _ _ c.ok_or.ensures.value)

pub returns-in-Ok-clause-faulty : goal.returns-in-Ok-clause-faulty
returns-in-Ok-clause-faulty c = λ err. same c ∙ refused _ _ c.ok_or.ensures.value err

pub returns-in-Ok-clause-none : goal.returns-in-Ok-clause-none
returns-in-Ok-clause-none c = λ none. inl (c.ok_or.ensures.value ∙ ap (λ o. ok_or o fault.Faulty) (sym (same c) ∙ none))

pub returns-in-Err-clause-faulty : goal.returns-in-Err-clause-faulty
returns-in-Err-clause-faulty c = λ faulty.
    options_of-refused _ _ c.args.words.now c.in_ok-command.ensures (same_texts c.args.words.now) c.in-Err.error c.in-Err.ensures.kinds (λ memory. memory≢faulty c.own_fault.result (c.own_fault.ensures.1 memory) faulty)
