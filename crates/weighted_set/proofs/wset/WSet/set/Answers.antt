use Rattle.std.proofs.Common.{ap, sym, ◌∙◌, Some}
use Rattle.datasets.specs.Dataset.{set_at}
use Rattle.weighted_set.proofs.Tables.{dataset_of-weighs}
use Rattle.weighted_set.proofs.WeightSets.{removed_are_weights, removed_dataset, inserted_are_weights}
use Rattle.weighted_set.proofs.wset.WSet.set.Goals as goal

pub invariant_of-self : goal.invariant_of-self
invariant_of-self c =
    let done = c.remove.ensures in
    removed_are_weights c.args.row c.args.weight c.self.inside.table.entries c.remove.new.self.entries c.numer-numerator.ensures.in_range done.ordered c.self.invariant
    (sym c.if-is_zero.ensures) done.updates.0 done.entries

pub returns-then-is_zero-clause-ok : goal.returns-then-is_zero-clause-ok
returns-then-is_zero-clause-ok c =
    let done = c.remove.ensures in
    removed_dataset c.args.row c.args.weight c.self.inside.table.entries c.remove.new.self.entries c.numer-numerator.ensures.in_range done.ordered c.self.invariant
    (sym c.if-is_zero.ensures) done.updates.0
    ∙ ap (set_at c.args.row c.args.weight) c.self.view_is

pub invariant_of-self-2 : goal.invariant_of-self-2
invariant_of-self-2 c =
    let done = c.in_ok-insert.ensures in
    inserted_are_weights c.args.row c.args.weight c.self.inside.table.entries c.insert.new.self.entries c.numer-numerator.ensures.in_range done.ordered c.self.invariant
    (sym c.if-is_zero.ensures) done.updates.0 done.entries

pub returns-clause-ok : goal.returns-clause-ok
returns-clause-ok c =
    dataset_of-weighs c.args.row (Some c.args.weight) c.self.inside.table.entries c.insert.new.self.entries c.in_ok-insert.ensures.updates.0
    ∙ ap (set_at c.args.row c.args.weight) c.self.view_is
