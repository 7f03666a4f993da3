use Rattle.std.specs.Cmp.{on_total}
use Rattle.std.proofs.Common.{Bool, ◌≤◌, take, ◌∙◌, ◌++◌, ◌∷◌, [], ap, arith, length, subst, sym}
use Rattle.std.proofs.lemmas.List.{take_all, take_more}
use Rattle.std.proofs.lemmas.List.Filters.{dedup_is}
use Rattle.std.proofs.lemmas.List.Kept.{IsStrictlySortedBy-dedup}
use Rattle.std.proofs.lemmas.List.Sorted.{length_permutation}
use Rattle.record_text.specs.Order.{row_eq}
use Rattle.record_text.specs.OrderLaws.{row_ties, row_total}
use Rattle.datasets.specs.Entries.{AreRising}
use Rattle.weighted_set.specs.declared.weighted.Change.{Change}
use Rattle.std.specs.Prelude.{IfSome}
use Rattle.weighted_set.specs.Adding.{AreChangesOfAdding, IsAddedChange}
use Rattle.weighted_set.specs.Changes.{changed_rows}
use Rattle.weighted_set.proofs.ChangeLists.{rising_rows}
use Rattle.weighted_set.proofs.DistinctRows.{AreAddedChanges, added_changes_more, as_many, dedup_kept, distinct_changes}
use Rattle.weighted_set.proofs.adding.changes_of_distinct.Goals as goal

pub loop-one-init : goal.loop-one-init
loop-one-init c = subst (AreAddedChanges c.args.set.now.committed c.args.signed []) (sym c.in_ok-changes.ensures.items) tt

pub loop-one-preserved : goal.loop-one-preserved
loop-one-preserved c =
    let A = c.args.set.now.committed in
    let added = c.args.added.now in
    let i = c.loop-one.one-index in
    let more = take_more added i c.one-item.result c.loop-one-test.true ∙ ap (λ e. take i added ++ e ∷ []) (sym c.one-item.is) in
    let here = subst (λ found. IfSome found (IsAddedChange A c.args.signed c.one-item.result)) c.in-Some.is c.in_ok-change.ensures in
    subst (λ es. AreAddedChanges A c.args.signed es c.push.new.self.items) (sym more)
    (subst (AreAddedChanges A c.args.signed _) (sym c.in_ok-push.ensures.items) (added_changes_more A c.args.signed _ c.loop-one.changes.items c.one-item.result c.in-Some.change here c.loop-one.invariant))

pub returns : goal.returns
returns c =
    let A = c.args.set.now.committed in
    let added = c.args.added.now in
    let list = c.loop-one.changes.items in
    let sorted = c.sort_unstable.new.self.items in
    let moved = c.sort_unstable.ensures.permutation in
    let same : Change → Change → Bool = λ a b. row_eq a.row b.row in
    let each = subst (λ es. AreAddedChanges A c.args.signed es list) (take_all c.loop-one.one-index added c.loop-one-test.false) c.loop-one.invariant in
    let is = dedup_is same sorted c.dedup.new.self.items c.dedup.ensures.filtered in
    let rising = rising_rows _ (IsStrictlySortedBy-dedup (on_total (λ (c : Change). c.row) row_total) (λ a b. row_ties a.row b.row) sorted c.sort_unstable.ensures.sorted) in
    let many = as_many A c.args.signed added list each in
    let long = length_permutation list sorted moved in
    let full = c.if-len-added.false in
    let len = c.len.ensures in
    let kept = dedup_kept same sorted (subst (λ cs. length sorted ≤ length cs) is (omega (arith, many, long, full, len))) in
    let now = is ∙ kept in
    subst (AreChangesOfAdding A added c.args.signed) (sym now) (distinct_changes A c.args.signed added list sorted each moved (subst (λ cs. AreRising (changed_rows cs)) kept rising))
