use Rattle.std.proofs.Common.{◌≡◌, ◌+◌, length, rules}
use Rattle.csv_changes.specs.Changes.{changes_in, weighted_at}
use Rattle.csv_changes.proofs.Fronts.{each-next}
use Rattle.csv_changes.proofs.changes.changes_left.Goals as goal

pub loop-added-preserved : goal.loop-added-preserved
loop-added-preserved g c =
    let one = rw c.if-branch.true at c.in_ok-next_record.ensures.next in
    let at : c.len.result ≡ length c.loop-added.added.items = search rules in
    let read = rw at at c.in_ok-change.ensures in
    let reads = c.in_ok-next_record.ensures.reads c.if-branch.true in
    let place : length c.push.new.self.items ≡ length c.loop-added.added.items + 1 = search rules in
    record {
      reads = reads;
      read = each-next (weighted_at c.args.kinds) (length c.loop-added.added.items) (length c.push.new.self.items) (g.R.Records.progress c.next_record.new.self).fields
          (g.R.Records.progress c.loop-added.records).left (g.R.Records.progress c.next_record.new.self).left c.loop-added.added.items c.push.new.self.items c.in_ok-change.change
          (changes_in c.args.kinds (g.R.Records.progress c.args.records.now).left) place one c.in_ok-push.ensures.items read c.loop-added.invariant.read;
    }
