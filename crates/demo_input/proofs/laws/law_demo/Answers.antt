use Rattle.std.proofs.Common.{◌≡◌, refl, length, true, nat_lt}
use Rattle.std.specs.List.{list_all}
use Rattle.std.proofs.lemmas.Bool.{ltb-true}
use Rattle.std.proofs.lemmas.List.Sums.{AllPass-from_list_all}
use Rattle.line_runs.specs.Lines.{WholeLines, whole_lines}
use Rattle.demo_input.specs.Demo.{demo_questions, demo_setup, demo_text, line}
use Rattle.demo_input.proofs.DemoCount.{full_lines-text}
use Rattle.demo_input.proofs.DemoLines.{IsClosed-append, IsClosed-questions, IsClosed-setup, Lines-closed, WholeLines-closed}
use Rattle.demo_input.proofs.laws.law_demo.Goals as goal

pub returns-clause-whole : goal.returns-clause-whole
returns-clause-whole c n = WholeLines-closed (demo_setup n) demo_questions (IsClosed-setup n)

pub returns-clause-lines : goal.returns-clause-lines
returns-clause-lines c n =
    Lines-closed (demo_text n) (IsClosed-append (demo_setup n) demo_questions (IsClosed-setup n) IsClosed-questions)

pub returns-clause-setup : goal.returns-clause-setup
returns-clause-setup c n = (Lines-closed (demo_setup n) (IsClosed-setup n), (IsClosed-setup n).closed)

pub returns-clause-questions : goal.returns-clause-questions
unfolding demo_questions line whole_lines
returns-clause-questions c =
    let full : list_all (λ l. nat_lt 0 (length l)) (WholeLines demo_questions) ≡ true = refl in
    record {
      three = refl;
      full = λ k none within. ltb-true 0 _ (AllPass-from_list_all (λ l. nat_lt 0 (length l)) (WholeLines demo_questions) full k none within);
      whole = Lines-closed demo_questions IsClosed-questions;
      closed = IsClosed-questions.closed;
    }

pub returns-clause-counted : goal.returns-clause-counted
returns-clause-counted c = full_lines-text
