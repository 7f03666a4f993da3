-- The new weight of the row, and every other one as it was.
use Rattle.std.specs.Prelude.{◌≡◌, ◌+◌, ◌<◌, unwrap_or}
use Rattle.std.specs.Map.{lookup}
use Rattle.std.proofs.Common.{sym, ap, subst, ◌∙◌, arith}
use Rattle.std.proofs.lemmas.Map.Views.{All-values-insert_entry}
use Rattle.record_text.specs.Order.{row_cmp}
use Rattle.datasets.specs.Entries.{same_row}
use Rattle.op_linear.specs.Shares.{AreAboveZero}
use Rattle.op_linear.proofs.GivenWeights.{sum_at-added}
use Rattle.op_linear.proofs.shares.add_weight.Goals as goal
use Rattle.op_linear.proofs.shares.add_weight.Goals.{in-Some, in-None}

pub returns-clause-sums : goal.returns-clause-sums
returns-clause-sums c z =
    let old = c.args.sums.now.entries in
    let found : c.match-get.sum ≡ unwrap_or (lookup (same_row c.args.row) old) 0 =
    elim c.match-get.branch [
      | in-Some w ↦ w.sum-is ∙ ap (λ o. unwrap_or o 0) w.in-Some.ensures.value
      | in-None w ↦ w.sum-is ∙ ap (λ o. unwrap_or o 0) w.in-None.ensures.value
    ] in
    sum_at-added c.args.row c.match-get.sum c.args.weight old c.insert.new.self.entries found c.in_ok-insert.ensures.updates.0 z

pub returns-clause-above_zero : goal.returns-clause-above_zero
returns-clause-above_zero c above =
    let some = c.requires.some in
    let more : 0 < c.match-get.sum + c.args.weight = omega arith in
    subst AreAboveZero (sym c.in_ok-insert.ensures.entries) (All-values-insert_entry row_cmp c.args.row (c.match-get.sum + c.args.weight) (λ n. 0 < n) c.args.sums.now.entries above more)
