use Rattle.std.specs.Prelude.{true, []}
use Rattle.std.proofs.Common.{◌∙◌}
use Rattle.plan_checker.proofs.Members.{last_or_popped}
use Rattle.plan_checker.proofs.made.Made.last.Goals as goal

pub returns : goal.returns
returns c = record {
  columns = c.new.ensures.columns ∙ last_or_popped [] _ _ _ c.in-Some.ensures.items;
  sign = c.new.ensures.sign ∙ last_or_popped true _ _ _ c.in-Some-pop.ensures.items;
  uses = c.new.ensures.uses ∙ last_or_popped [] _ _ _ c.in-Some-pop-2.ensures.items;
}
