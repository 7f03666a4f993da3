use Rattle.std.proofs.Common.{◌≡◌, ap, sym, ◌∙◌, refl, subst, Some}
use Rattle.std.specs.Option.{option_copied_mut}
use Rattle.std.specs.Prelude.{Ok, Err, IsSome, OnErr, OnOk, unwrap_or}
use Rattle.datasets.specs.Dataset.{set_at}
use Rattle.datasets.specs.Entries.{Row}
use Rattle.weighted_set.specs.Parts.{empty_part, pending_part, set_at_key}
use Rattle.weighted_set.specs.Tables.{FindsAt}
use Rattle.weighted_set.proofs.PartStores.{part_moves, part_stays}
use Rattle.weighted_set.proofs.TouchedRows.{others_stay}
use Rattle.weighted_set.proofs.part_store.put_at_key.Goals as goal

-- ---- a key that is there
pub returns-in-Some-clause-committed : goal.returns-in-Some-clause-committed
returns-in-Some-clause-committed c =
    let w = c.put_pending.new.self in
    let there = c.in-Some.ensures.value in
    let updates = (c.get_mut.follows.holds w).3 (subst IsSome there refl) in
    part_stays c.args.key.now (Some w) c.args.parts.now.entries (c.get_mut.follows.lender w).entries updates.0 (λ p. p.committed)
    (c.put_pending.ensures.committed ∙ ap (λ o. (unwrap_or o empty_part).committed) there)

pub returns-in-Some-clause-ok : goal.returns-in-Some-clause-ok
returns-in-Some-clause-ok c =
    let w = c.put_pending.new.self in
    let old = c.args.parts.now.entries in
    let new = (c.get_mut.follows.lender w).entries in
    let key = c.args.key.now in
    let x = c.args.row.now in
    let there = c.in-Some.ensures.value in
    let updates = (c.get_mut.follows.holds w).3 (subst IsSome there refl) in
    elim c.put_pending.result as (λ r. OnOk r (w.pending ≡ set_at x c.args.weight c.in-Some.part.now.pending) → OnOk r ((k : Row) → pending_part new k ≡ set_at_key key x c.args.weight (pending_part old) k)) [
      | Ok y ↦ λ h. part_moves key (Some w) old new updates.0 (λ p. p.pending) (λ p. set_at x c.args.weight p.pending) (h ∙ ap (λ o. set_at x c.args.weight (unwrap_or o empty_part).pending) there)
      | Err y ↦ λ h. tt
    ] c.put_pending.ensures.ok

pub returns-in-Some-clause-err : goal.returns-in-Some-clause-err
returns-in-Some-clause-err c =
    let w = c.put_pending.new.self in
    let old = c.args.parts.now.entries in
    let new = (c.get_mut.follows.lender w).entries in
    let there = c.in-Some.ensures.value in
    let updates = (c.get_mut.follows.holds w).3 (subst IsSome there refl) in
    elim c.put_pending.result as (λ r. OnErr r (w.pending ≡ c.in-Some.part.now.pending) → OnErr r ((k : Row) → pending_part new k ≡ pending_part old k)) [
      | Ok y ↦ λ h. tt
      | Err y ↦ λ h. part_stays c.args.key.now (Some w) old new updates.0 (λ p. p.pending) (h ∙ ap (λ o. (unwrap_or o empty_part).pending) there)
    ] c.put_pending.ensures.err

pub returns-in-Some-clause-others : goal.returns-in-Some-clause-others
returns-in-Some-clause-others c =
    let w = c.put_pending.new.self in
    let updates = (c.get_mut.follows.holds w).3 (subst IsSome c.in-Some.ensures.value refl) in
    others_stay c.args.key.now (Some w) c.args.parts.now.entries (c.get_mut.follows.lender w).entries updates.0

-- ---- a key that is absent
pub returns-clause-committed : goal.returns-clause-committed
returns-clause-committed c =
    let old = c.args.parts.now.entries in
    let new = c.insert.new.self.entries in
    let key = c.args.key.now in
    let part = c.in_ok-part.part in
    let absent = ap option_copied_mut (sym c.in_default.is) ∙ c.get_mut.ensures.value in
    let copied = subst (λ y. FindsAt y (Some part) c.get_mut.follows.lender-at-none.entries new) c.in_ok-key.ensures c.in_ok-insert.ensures.updates.0 in
    let finds = subst (λ m. FindsAt key (Some part) m.entries new) c.get_mut.follows.holds-at-none copied in
    part_stays key (Some part) old new finds (λ p. p.committed) (c.in_ok-part.ensures.committed ∙ ap (λ o. (unwrap_or o empty_part).committed) absent)

pub returns-clause-ok : goal.returns-clause-ok
returns-clause-ok c =
    let old = c.args.parts.now.entries in
    let new = c.insert.new.self.entries in
    let key = c.args.key.now in
    let x = c.args.row.now in
    let w = c.args.weight in
    let part = c.in_ok-part.part in
    let absent = ap option_copied_mut (sym c.in_default.is) ∙ c.get_mut.ensures.value in
    let copied = subst (λ y. FindsAt y (Some part) c.get_mut.follows.lender-at-none.entries new) c.in_ok-key.ensures c.in_ok-insert.ensures.updates.0 in
    let finds = subst (λ m. FindsAt key (Some part) m.entries new) c.get_mut.follows.holds-at-none copied in
    part_moves key (Some part) old new finds (λ p. p.pending) (λ p. set_at x w p.pending)
    (c.in_ok-part.ensures.pending ∙ ap (λ o. set_at x w (unwrap_or o empty_part).pending) absent)

pub returns-clause-others : goal.returns-clause-others
returns-clause-others c =
    let new = c.insert.new.self.entries in
    let key = c.args.key.now in
    let part = c.in_ok-part.part in
    let copied = subst (λ y. FindsAt y (Some part) c.get_mut.follows.lender-at-none.entries new) c.in_ok-key.ensures c.in_ok-insert.ensures.updates.0 in
    let finds = subst (λ m. FindsAt key (Some part) m.entries new) c.get_mut.follows.holds-at-none copied in
    others_stay key (Some part) c.args.parts.now.entries new finds
