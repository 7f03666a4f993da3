use Rattle.std.proofs.Common.{◌++◌, ◌∷◌, [], ap, length, map, refl, sym, take, ◌∙◌}
use Rattle.std.proofs.lemmas.List.{map-append}
use Rattle.std.proofs.lemmas.Option.{slice_get_read}
use Rattle.record_text.proofs.Lists.{map-front_more}
use Rattle.flow_graph.proofs.rows.lent_lists.Goals as goal

pub loop-list-preserved : goal.loop-list-preserved
loop-list-preserved c =
    let item = c.list-item.result in
    let lists = c.args.lists.now in
    let made = c.loop-list.lent.items in
    ap (map (λ x. x.now)) c.in_ok-push.ensures.items
    ∙ map-append (λ x. x.now) made (c.as_slice.result ∷ [])
    ∙ ap (λ xs. xs ++ c.as_slice.result.now ∷ []) c.loop-list.invariant
    ∙ ap (λ x. map (λ y. y.items) (take c.loop-list.list-index lists) ++ x ∷ []) c.as_slice.ensures.value
    ∙ sym (map-front_more (λ x. x.items) lists c.loop-list.list-index item (slice_get_read lists (length lists) c.loop-list.list-index item refl c.loop-list-test.true c.list-item.is))
