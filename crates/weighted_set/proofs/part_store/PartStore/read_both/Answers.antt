use Rattle.std.proofs.Common.{length, ap, sym, ◌∙◌, arith}
use Rattle.std.specs.Prelude.{unwrap_or}
use Rattle.weighted_set.specs.declared.held.View.TheVariants.{Committed, Pending}
use Rattle.weighted_set.specs.Changes.{entries_of}
use Rattle.weighted_set.specs.Parts.{committed_part, empty_part, pending_part}
use Rattle.weighted_set.proofs.PartStores.{entries-empty_part}
use Rattle.weighted_set.proofs.part_store.PartStore.read_both.Goals as goal

pub returns-in-None-clause-before : goal.returns-in-None-clause-before
returns-in-None-clause-before g c =
    ap entries_of c.clear.ensures.items
    ∙ sym (entries-empty_part Committed)
    ∙ ap (λ o. (unwrap_or o empty_part).committed.entries) c.in-None.ensures.value
    ∙ ap (λ parts. (committed_part parts c.args.key.now).entries) c.self.view_is

pub returns-in-None-clause-after : goal.returns-in-None-clause-after
returns-in-None-clause-after g c =
    ap entries_of c.clear-in-None.ensures.items
    ∙ sym (entries-empty_part Pending)
    ∙ ap (λ o. (unwrap_or o empty_part).pending.entries) c.in-None.ensures.value
    ∙ ap (λ parts. (pending_part parts c.args.key.now).entries) c.self.view_is

pub returns-in-None-clause-ticks : goal.returns-in-None-clause-ticks
returns-in-None-clause-ticks g c =
    let before = ap length
    (sym (entries-empty_part Committed)
    ∙ ap (λ o. (unwrap_or o empty_part).committed.entries) c.in-None.ensures.value
    ∙ ap (λ parts. (committed_part parts c.args.key.now).entries) c.self.view_is) in
    let after = ap length
    (sym (entries-empty_part Pending)
    ∙ ap (λ o. (unwrap_or o empty_part).pending.entries) c.in-None.ensures.value
    ∙ ap (λ parts. (pending_part parts c.args.key.now).entries) c.self.view_is) in
    omega (arith, before, after)
