use Rattle.std.proofs.Common.{refl, codes}
use Rattle.clap.specs.Words.{found_of}
use Rattle.program_words.proofs.Matches.{first_of-got}
use Rattle.program_words.proofs.read.max_bytes_in.Goals as goal

pub returns-in-Some : goal.returns-in-Some
returns-in-Some c =
    let given = first_of-got (found_of c.args.matches.now) (codes "max-bytes") _ c.in-Some.ensures in
    rw given c.number_up_to.ensures

pub returns-in-None : goal.returns-in-None
returns-in-None c =
    let absent = first_of-got (found_of c.args.matches.now) (codes "max-bytes") _ c.in-None.ensures in
    rw absent refl
