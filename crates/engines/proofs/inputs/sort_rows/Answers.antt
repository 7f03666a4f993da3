use Rattle.std.proofs.Common.{ap, subst, sym, ◌∙◌}
use Rattle.std.proofs.lemmas.List.Filters.{dedup_is}
use Rattle.std.proofs.lemmas.List.Kept.{IsStrictlySortedBy-dedup}
use Rattle.std.proofs.lemmas.List.Sorted.{list_any-IsPermutation}
use Rattle.record_text.specs.Order.{row_eq}
use Rattle.record_text.specs.OrderLaws.{row_ties, row_total}
use Rattle.datasets.specs.Entries.{AreRising, has_row, same_row}
use Rattle.engines.proofs.Pending.{has_row-dedup}
use Rattle.engines.proofs.inputs.sort_rows.Goals as goal

pub returns-clause-same : goal.returns-clause-same
returns-clause-same c k =
    ap (λ rows. has_row rows k) (dedup_is row_eq _ _ c.dedup.ensures.filtered) ∙ has_row-dedup c.sort_unstable.new.self.items k
    ∙ sym (list_any-IsPermutation (same_row k) c.args.rows.now.items c.sort_unstable.new.self.items c.sort_unstable.ensures.permutation)

pub returns-clause-rising : goal.returns-clause-rising
returns-clause-rising c =
    subst AreRising (sym (dedup_is row_eq _ _ c.dedup.ensures.filtered))
    (IsStrictlySortedBy-dedup row_total row_ties c.sort_unstable.new.self.items c.sort_unstable.ensures.sorted)
