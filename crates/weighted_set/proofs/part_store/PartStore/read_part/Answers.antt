use Rattle.std.proofs.Common.{length, ap, sym, ◌∙◌, arith}
use Rattle.std.specs.Prelude.{unwrap_or}
use Rattle.weighted_set.specs.Changes.{entries_of}
use Rattle.weighted_set.specs.Held.{viewed}
use Rattle.weighted_set.specs.Parts.{empty_part, part_in}
use Rattle.weighted_set.proofs.PartStores.{entries-empty_part}
use Rattle.weighted_set.proofs.part_store.PartStore.read_part.Goals as goal

pub returns-in-None-clause-entries : goal.returns-in-None-clause-entries
returns-in-None-clause-entries g c =
    let view = c.args.view in
    ap entries_of c.clear.ensures.items
    ∙ sym (entries-empty_part view)
    ∙ ap (λ o. (viewed view (unwrap_or o empty_part)).entries) c.in-None.ensures.value
    ∙ ap (λ parts. (part_in view parts c.args.key.now).entries) c.self.view_is

pub returns-in-None-clause-ticks : goal.returns-in-None-clause-ticks
returns-in-None-clause-ticks g c =
    let view = c.args.view in
    let none = ap length
    (sym (entries-empty_part view)
    ∙ ap (λ o. (viewed view (unwrap_or o empty_part)).entries) c.in-None.ensures.value
    ∙ ap (λ parts. (part_in view parts c.args.key.now).entries) c.self.view_is) in
    omega arith
