use Rattle.std.proofs.Common.{◌≡◌, ◌∙◌, ◌++◌, [], ◌∷◌, refl, subst, sym, arith}
use Rattle.std.proofs.lemmas.Grind.{common_steps}
use Rattle.datasets.specs.Dataset.{at}
use Rattle.datasets.proofs.Counts.{set_at-same}
use Rattle.weighted_set.specs.Held.{HeldDatasets, IsSet, IsSettledRow, committed_of, pending_of, seen_by}
use Rattle.weighted_set.specs.Tables.{AllBut}
use Rattle.weighted_set.proofs.Sets.{committed_is_viewed, dataset_by-view, pending_is_viewed, seen_in_range, settled_is_set}
use Rattle.weighted_set.proofs.Tables.{same_if_untouched, seen_by-settles}
use Rattle.weighted_set.proofs.set.HeldSet.settle.Goals as goal

pub loop-row-init : goal.loop-row-init
loop-row-init c = record { set = c.self.invariant.0; viewed = dataset_by-view c.args.view c.self.inside.table.entries c.args.self.now c.self.view_is }

pub loop-row-preserved : goal.loop-row-preserved
loop-row-preserved c =
    let view = c.args.view in
    let old = c.loop-row.self-inside in
    let call = c.settle_row-self-inside in
    let es = old.table.entries in
    let x = c.in-Some.row in
    let w = at (seen_by view es) x in
    let ts = c.pop.new.self.items in
    let set = subst (λ ts. IsSet es ts old.len) c.in-Some.ensures.items c.loop-row.invariant.set in
    record {
      set = settled_is_set es call.new.table.entries ts x old.len w call.result set call.ensures.settled (seen_in_range view es (ts ++ x ∷ []) old.len set x) call.ensures.counted;
      viewed = seen_by-settles view x w es call.new.table.entries call.ensures.settled ∙ set_at-same x (seen_by view es) ∙ c.loop-row.invariant.viewed;
    }

pub returns-clause-committed : goal.returns-clause-committed
returns-clause-committed c =
    let view = c.args.view in
    let es = c.loop-row.self-inside.table.entries in
    let none : c.loop-row.self-inside.touched.items ≡ [] = grind (arith, common_steps) in
    let seen : HeldDatasets = record { committed = committed_of es; pending = pending_of es } in
    let same = same_if_untouched es (subst (λ ts. AllBut IsSettledRow ts es) none c.loop-row.invariant.set.settled) in
    committed_is_viewed view seen same ∙ sym (dataset_by-view view es seen refl) ∙ c.loop-row.invariant.viewed

pub returns-clause-pending : goal.returns-clause-pending
returns-clause-pending c =
    let view = c.args.view in
    let es = c.loop-row.self-inside.table.entries in
    let none : c.loop-row.self-inside.touched.items ≡ [] = grind (arith, common_steps) in
    let seen : HeldDatasets = record { committed = committed_of es; pending = pending_of es } in
    let same = same_if_untouched es (subst (λ ts. AllBut IsSettledRow ts es) none c.loop-row.invariant.set.settled) in
    pending_is_viewed view seen same ∙ sym (dataset_by-view view es seen refl) ∙ c.loop-row.invariant.viewed
