use Rattle.std.proofs.Common.{◌≡◌}
use Rattle.std.specs.Vec.{vec_len}
use Rattle.datasets.specs.Entries.{Row}
use Rattle.weighted_set.specs.Parts.{IsSettledPart, part_in}
use Rattle.weighted_set.specs.Tables.{AllBut}
use Rattle.weighted_set.proofs.part_store.PartStore.settle.Given as goal

abbrev pub invariant-loop-key : goal.invariant-loop-key
invariant-loop-key l = record {
  settled : AllBut IsSettledPart l.self-inside.touched.items l.self-inside.parts.entries;
  viewed : (k : Row) → part_in l.view l.self-inside.parts.entries k ≡ part_in l.view l.fn.self k;
}

abbrev pub decreases-loop-key : goal.decreases-loop-key
decreases-loop-key l = vec_len l.self-inside.touched
