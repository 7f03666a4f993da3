use Rattle.std.proofs.Common.{ap, sym, ◌∙◌, refl, subst, true≢false, Some, None}
use Rattle.std.specs.Map.{lookup}
use Rattle.std.specs.Option.{option_copied_mut}
use Rattle.std.specs.Prelude.{IfSome, IsSome, unwrap_or}
use Rattle.datasets.specs.Entries.{same_row}
use Rattle.weighted_set.specs.Held.{viewed}
use Rattle.weighted_set.specs.Parts.{IsSettledPart, empty_part, part_in}
use Rattle.weighted_set.proofs.PartStores.{part_stays, viewed-empty_part}
use Rattle.weighted_set.proofs.Sets.{settled_is_viewed}
use Rattle.weighted_set.proofs.TouchedRows.{FindsAt-again, found_itself, others_stay}
use Rattle.weighted_set.proofs.part_store.settle_key.Goals as goal

-- ---- a key that is absent
pub returns-in_default-clause-viewed : goal.returns-in_default-clause-viewed
returns-in_default-clause-viewed c k = ap (λ m. part_in c.args.view m.entries k) c.get_mut.follows.holds-at-none

pub returns-in_default-clause-others : goal.returns-in_default-clause-others
returns-in_default-clause-others c q n = ap (λ m. lookup (same_row q) m.entries) c.get_mut.follows.holds-at-none

pub returns-in_default-clause-settled : goal.returns-in_default-clause-settled
returns-in_default-clause-settled c =
    let absent = ap option_copied_mut (sym c.in_default.is) ∙ c.get_mut.ensures.value in
    subst (λ m. IfSome (lookup (same_row c.args.key.now) m.entries) IsSettledPart) (sym c.get_mut.follows.holds-at-none) (subst (λ o. IfSome o IsSettledPart) absent tt)

-- ---- a part that has no rows
pub returns-then-is_empty-clause-viewed : goal.returns-then-is_empty-clause-viewed
returns-then-is_empty-clause-viewed c =
    let view = c.args.view in
    let key = c.args.key.now in
    let old = c.args.parts.now.entries in
    let new = c.remove.new.self.entries in
    let w = c.settle.new.self in
    let there = c.in-Some.ensures.value in
    let updates = (c.get_mut.follows.holds w).3 (subst IsSome there refl) in
    let finds = FindsAt-again key (Some w) None old (c.get_mut.follows.lender w).entries new updates.0 c.remove.ensures.updates.0 in
    part_stays key None old new finds (viewed view)
    (viewed-empty_part view ∙ sym (c.is_empty.ensures.0 c.if-is_empty.true) ∙ c.settle.ensures.committed ∙ ap (λ o. viewed view (unwrap_or o empty_part)) there)

pub returns-then-is_empty-clause-others : goal.returns-then-is_empty-clause-others
returns-then-is_empty-clause-others c =
    let key = c.args.key.now in
    let old = c.args.parts.now.entries in
    let new = c.remove.new.self.entries in
    let w = c.settle.new.self in
    let updates = (c.get_mut.follows.holds w).3 (subst IsSome c.in-Some.ensures.value refl) in
    others_stay key None old new (FindsAt-again key (Some w) None old (c.get_mut.follows.lender w).entries new updates.0 c.remove.ensures.updates.0)

pub returns-then-is_empty-clause-settled : goal.returns-then-is_empty-clause-settled
returns-then-is_empty-clause-settled c =
    let key = c.args.key.now in
    let w = c.settle.new.self in
    let itself = found_itself key None (c.get_mut.follows.lender w).entries c.remove.new.self.entries c.remove.ensures.updates.0 in
    subst (λ o. IfSome o IsSettledPart) (sym itself) tt

-- ---- a part that has rows
pub returns-else-is_empty-clause-viewed : goal.returns-else-is_empty-clause-viewed
returns-else-is_empty-clause-viewed c =
    let view = c.args.view in
    let key = c.args.key.now in
    let old = c.args.parts.now.entries in
    let w = c.settle.new.self in
    let there = c.in-Some.ensures.value in
    let updates = (c.get_mut.follows.holds w).3 (subst IsSome there refl) in
    part_stays key (Some w) old (c.get_mut.follows.lender w).entries updates.0 (viewed view)
    (settled_is_viewed view w (viewed view c.in-Some.part.now) c.settle.ensures.committed c.settle.ensures.pending ∙ ap (λ o. viewed view (unwrap_or o empty_part)) there)

pub returns-else-is_empty-clause-others : goal.returns-else-is_empty-clause-others
returns-else-is_empty-clause-others c =
    let w = c.settle.new.self in
    let updates = (c.get_mut.follows.holds w).3 (subst IsSome c.in-Some.ensures.value refl) in
    others_stay c.args.key.now (Some w) c.args.parts.now.entries (c.get_mut.follows.lender w).entries updates.0

pub returns-else-is_empty-clause-settled : goal.returns-else-is_empty-clause-settled
returns-else-is_empty-clause-settled c =
    let key = c.args.key.now in
    let w = c.settle.new.self in
    let new = (c.get_mut.follows.lender w).entries in
    let updates = (c.get_mut.follows.holds w).3 (subst IsSome c.in-Some.ensures.value refl) in
    let same = c.settle.ensures.pending ∙ sym c.settle.ensures.committed in
    subst (λ o. IfSome o IsSettledPart) (sym (found_itself key (Some w) c.args.parts.now.entries new updates.0))
    (same, λ none. true≢false (sym (c.is_empty.ensures.1 none) ∙ c.if-is_empty.false))
