use Rattle.std.proofs.Common.{refl}
use Rattle.clap.proofs.OnLiterals.{clap_on_literals}
use Rattle.program_words.specs.Laws.{FaultyWords, NoWords, WorkedWords}
use Rattle.program_words.proofs.laws.law_words.Goals as goal

no_words : NoWords
unfolding clap_on_literals
no_words = refl

worked_words : WorkedWords
unfolding clap_on_literals
worked_words = (refl, refl, refl, refl)

faulty_words : FaultyWords
unfolding clap_on_literals
faulty_words = refl

pub returns-clause-none : goal.returns-clause-none
returns-clause-none c = no_words

pub returns-clause-worked : goal.returns-clause-worked
returns-clause-worked c = worked_words

pub returns-clause-faulty : goal.returns-clause-faulty
returns-clause-faulty c = faulty_words
