use Rattle.std.specs.Prelude.{unsigned_abs}
use Rattle.std.proofs.Common.{◌≡◌, ◌≤◌, ◌*◌, ◌^◌, drop}
use Rattle.level_walks.specs.Walks.{atom_gaps, with_halves}
use Rattle.op_groupby.specs.Group.{ordered, walked}
use Rattle.op_groupby.specs.Taking.{answer, with_taken}
use Rattle.op_groupby.proofs.walk.walk.Given as goal

-- the whole walk is the sums so far with what the rows from this place on add, and what is taken up is small
abbrev pub invariant-loop-at : goal.invariant-loop-at
invariant-loop-at l = record {
  whole : walked l.reduce l.key (ordered l.order) ≡ with_halves l.key l.sums (atom_gaps (with_taken l.reduce) (answer l.reduce) l.taken (drop l.at (ordered l.order)));
  small : unsigned_abs l.taken.number ≤ l.at * 2 ^ 63;
}
