use Rattle.std.proofs.Common.{◌++◌, [], ◌∷◌, length, ap, sym, ◌∙◌, arith}
use Rattle.weighted_set.specs.declared.weighted.Weighted.{Weighted}
use Rattle.weighted_set.specs.Changes.{entries_of}
use Rattle.weighted_set.proofs.OneRow.{entries-no_row, entries-one_row}
use Rattle.weighted_set.proofs.part.read_row.Goals as goal

pub returns-then-is_zero-clause-entries : goal.returns-then-is_zero-clause-entries
returns-then-is_zero-clause-entries g c =
    ap entries_of c.clear.ensures.items ∙ sym (entries-no_row c.args.row.now c.args.weight (sym c.if-is_zero.ensures))

pub returns-then-is_zero-clause-ticks : goal.returns-then-is_zero-clause-ticks
returns-then-is_zero-clause-ticks g c =
    let none = ap length (entries-no_row c.args.row.now c.args.weight (sym c.if-is_zero.ensures)) in
    omega arith

pub returns-clause-entries : goal.returns-clause-entries
returns-clause-entries g c =
    let w = c.args.weight in
    let one : Weighted = record { row = c.in_ok-row.row; weight = w } in
    ap entries_of (c.in_ok-push.ensures.items ∙ ap (λ xs. xs ++ one ∷ []) c.clear.ensures.items)
    ∙ ap (λ x. (x, w) ∷ []) c.in_ok-row.ensures
    ∙ sym (entries-one_row c.args.row.now w (sym c.if-is_zero.ensures))

pub returns-clause-ticks : goal.returns-clause-ticks
returns-clause-ticks g c =
    let one = ap length (entries-one_row c.args.row.now c.args.weight (sym c.if-is_zero.ensures)) in
    omega (arith, c.tick.ensures)

pub returns-clause-at_most : goal.returns-clause-at_most
returns-clause-at_most g c =
    let one = ap length (entries-one_row c.args.row.now c.args.weight (sym c.if-is_zero.ensures)) in
    omega (arith, c.tick.ensures)
