use Rattle.std.proofs.Common.{sym, subst}
use Rattle.std.specs.Vec.{vec_capacity}
use Rattle.weighted_set.specs.Parts.{IsSettledPart}
use Rattle.weighted_set.specs.Tables.{AllBut}
use Rattle.weighted_set.proofs.TouchedRows.{all_but_more, noted_gives_back}
use Rattle.weighted_set.proofs.part_store.PartStore.put.Goals as goal

pub invariant_of-self-2 : goal.invariant_of-self-2
invariant_of-self-2 c =
    let old = c.self.inside in
    let key = c.args.key.now in
    let new = c.put_at_key.new.parts.entries in
    let now = c.note.new.touched in
    let noted = c.in_ok-note.ensures.ok in (
      subst (λ ts. AllBut IsSettledPart ts new) (sym noted) (all_but_more IsSettledPart old.touched.items key old.parts.entries new c.put_at_key.ensures.others c.self.invariant.0),
      noted_gives_back old.touched.items now.items key (vec_capacity now) noted,
    )
