use Rattle.std.proofs.Common.{◌≡◌, ◌+◌, ◌≤◌, length, subst}
use Rattle.weighted_set.specs.Changes.{entries_of}
use Rattle.weighted_set.proofs.Sets.{dataset_by-view}
use Rattle.weighted_set.proofs.set.HeldSet.read.Goals as goal

pub returns-in-Ok-clause-entries : goal.returns-in-Ok-clause-entries
returns-in-Ok-clause-entries g c =
    subst (λ A. entries_of c.read_rows.new.into.items ≡ A.entries) (dataset_by-view c.args.view c.self.inside.table.entries c.args.self.now c.self.view_is) c.in-Ok.ensures.entries

pub returns-in-Ok-clause-ticks : goal.returns-in-Ok-clause-ticks
returns-in-Ok-clause-ticks g c =
    subst (λ A. c.read_rows.new.steps ≡ c.args.steps.now + length A.entries) (dataset_by-view c.args.view c.self.inside.table.entries c.args.self.now c.self.view_is) c.in-Ok.ensures.ticks

pub returns-in-Ok-clause-at_most : goal.returns-in-Ok-clause-at_most
returns-in-Ok-clause-at_most g c =
    subst (λ A. c.read_rows.new.steps ≤ c.args.steps.now + length A.entries) (dataset_by-view c.args.view c.self.inside.table.entries c.args.self.now c.self.view_is) c.read_rows.ensures.at_most

pub returns-in-Err-clause-at_most : goal.returns-in-Err-clause-at_most
returns-in-Err-clause-at_most g c =
    subst (λ A. c.read_rows.new.steps ≤ c.args.steps.now + length A.entries) (dataset_by-view c.args.view c.self.inside.table.entries c.args.self.now c.self.view_is) c.read_rows.ensures.at_most
