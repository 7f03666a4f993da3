use Rattle.frac_core.proofs.RoundTrip.{weight_of-ratio_text}
use Rattle.frac_core.proofs.Frac.write.Goals as goal

pub returns-in_err-text-clause-reads_back : goal.returns-in_err-text-clause-reads_back
returns-in_err-text-clause-reads_back c = weight_of-ratio_text c.args.self c.text.ensures.in_range

pub returns-clause-reads_back : goal.returns-clause-reads_back
returns-clause-reads_back c = weight_of-ratio_text c.args.self c.text.ensures.in_range
