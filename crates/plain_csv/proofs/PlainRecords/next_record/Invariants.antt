use Rattle.std.proofs.Common.{◌≡◌, [], length}
use Rattle.plain_csv.specs.Plain.{plain_records}
use Rattle.plain_csv.proofs.PlainRecords.next_record.Given as goal

abbrev pub invariant-loop-self : goal.invariant-loop-self
invariant-loop-self l = record {
  fields : l.self-inside.fields.items ≡ [];
  left : plain_records l.self-inside.rest.now ≡ l.fn.self.left;
}

abbrev pub decreases-loop-self : goal.decreases-loop-self
decreases-loop-self l = length l.self-inside.rest.now
