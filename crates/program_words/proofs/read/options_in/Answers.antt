use Rattle.std.proofs.Common.{refl, codes, ◌∙◌}
use Rattle.clap.specs.Words.{found_of}
use Rattle.program_words.proofs.Matches.{is_set-got}
use Rattle.program_words.proofs.read.options_in.Goals as goal

pub returns : goal.returns
returns c =
    let set = c.unwrap_or.ensures ∙ is_set-got _ (found_of c.args.matches.now) (codes "curator") c.get_one.result c.get_one.ensures.none c.get_one.ensures.value in
    rw (set, ← c.in_ok-demo_in.ensures, ← c.in_ok-max_bytes_in.ensures) refl
