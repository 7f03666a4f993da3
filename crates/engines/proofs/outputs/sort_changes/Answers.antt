use Rattle.std.specs.Prelude.{Bool}
use Rattle.std.specs.Cmp.{on_total}
use Rattle.std.proofs.Common.{subst, sym, ◌∙◌}
use Rattle.std.proofs.lemmas.List.Filters.{All-dedup, dedup_is}
use Rattle.std.proofs.lemmas.List.Kept.{IsStrictlySortedBy-dedup}
use Rattle.std.proofs.lemmas.List.Sorted.{All-permutation, IsPermutation-map, list_any-IsPermutation}
use Rattle.record_text.specs.Order.{row_eq}
use Rattle.record_text.specs.OrderLaws.{row_ties, row_total}
use Rattle.datasets.specs.Entries.{AreRising, same_row}
use Rattle.weighted_set.specs.declared.weighted.Change.{Change}
use Rattle.weighted_set.specs.Changes.{changed_rows}
use Rattle.engines.specs.Staging.{AreOutputChanges}
use Rattle.weighted_set.proofs.ChangeLists.{rising_rows}
use Rattle.engines.proofs.Staged.{IsOutputChange, rows_of_dedup}
use Rattle.engines.proofs.outputs.sort_changes.Goals as goal

pub returns : goal.returns
returns c owner before after done staged =
    let old = c.args.changes.now.items in
    let sorted = c.sort_unstable.new.self.items in
    let moved = c.sort_unstable.ensures.permutation in
    let same_change : Change → Change → Bool = λ a b. row_eq a.row b.row in
    subst (λ cs. AreOutputChanges owner before after done cs × AreRising (changed_rows cs)) (sym (dedup_is same_change _ _ c.dedup.ensures.filtered)) (
      record {
        each = All-dedup same_change (IsOutputChange owner before after) sorted (All-permutation (IsOutputChange owner before after) old sorted moved staged.each);
        complete = λ x h n.
            rows_of_dedup x sorted ∙ sym (list_any-IsPermutation (same_row x) (changed_rows old) (changed_rows sorted) (IsPermutation-map (λ (c : Change). c.row) old sorted moved)) ∙ staged.complete x h n;
      },
      rising_rows _ (IsStrictlySortedBy-dedup (on_total (λ (c : Change). c.row) row_total) (λ a b. row_ties a.row b.row) sorted c.sort_unstable.ensures.sorted),
    )
