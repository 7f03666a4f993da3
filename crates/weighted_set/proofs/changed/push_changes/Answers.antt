use Rattle.std.proofs.Common.{ap, ap₂, sym, ◌++◌, ◌∙◌, append-nil}
use Rattle.weighted_set.specs.Held.{held_changes}
use Rattle.weighted_set.specs.Merging.{both, merged}
use Rattle.weighted_set.proofs.WalkedChanges.{changes_walked}
use Rattle.weighted_set.proofs.changed.push_changes.Goals as goal

pub returns : goal.returns
returns c A B p q =
    let into = c.args.into.now.items in
    let now = c.loop-lower.into.items in
    sym (append-nil now)
    ∙ ap (λ es. now ++ held_changes es) (sym c.in_default.ensures.rest)
    ∙ c.loop-lower.invariant
    ∙ ap₂ (λ es gs. into ++ held_changes (merged both es gs)) p q
    ∙ ap (λ cs. into ++ cs) (sym (changes_walked A B))
