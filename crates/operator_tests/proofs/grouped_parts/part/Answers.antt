-- A part is a list of rows.
use Rattle.weighted_set.proofs.Parts.{IsListed-entries}
use Rattle.weighted_set.specs.Parts.{part_in}
use Rattle.weighted_set.specs.declared.held.View.TheVariants.{Pending}
use Rattle.operator_tests.proofs.grouped_parts.part.Goals as goal

pub returns : goal.returns
returns g c =
    IsListed-entries c.read_part.new.into.items (part_in Pending c.loop-first.store c.in_ok-key.key) c.in_ok-read_part.ensures.entries
