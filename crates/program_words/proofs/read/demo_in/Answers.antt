use Rattle.std.proofs.Common.{refl, codes}
use Rattle.clap.specs.Words.{found_of}
use Rattle.program_words.proofs.Matches.{first_of-got}
use Rattle.program_words.proofs.read.demo_in.Goals as goal

pub returns-in_err-number_up_to-in-Some : goal.returns-in_err-number_up_to-in-Some
returns-in_err-number_up_to-in-Some c =
    let given = first_of-got (found_of c.args.matches.now) (codes "demo") _ c.in-Some.ensures in
    rw (given, c.from_residual.ensures, ← c.in_err-number_up_to-in-Some.ensures) refl

pub returns-in_ok-number_up_to-in-Some : goal.returns-in_ok-number_up_to-in-Some
returns-in_ok-number_up_to-in-Some c =
    let given = first_of-got (found_of c.args.matches.now) (codes "demo") _ c.in-Some.ensures in
    rw (given, ← c.in_ok-number_up_to-in-Some.ensures) refl

pub returns-in-None : goal.returns-in-None
returns-in-None c =
    let absent = first_of-got (found_of c.args.matches.now) (codes "demo") _ c.in-None.ensures in
    rw absent refl
