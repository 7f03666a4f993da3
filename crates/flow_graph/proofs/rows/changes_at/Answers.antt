use Rattle.std.proofs.Common.{◌≡◌, ◌+◌, [], ◌∷◌, ap, get_or, length, length-append, map, subst, sym, ◌∙◌}
use Rattle.std.specs.Prelude.{if◌then◌else◌, nat_eq}
use Rattle.flow_graph.proofs.Lists.{mapped-each-more}
use Rattle.flow_graph.proofs.rows.changes_at.Goals as goal

pub loop-s-preserved : goal.loop-s-preserved
loop-s-preserved c =
    let items = c.loop-s.lists.items in
    record {
      length = ap length c.in_ok-push.ensures.items ∙ length-append items (c.list_at.result ∷ []) ∙ ap (λ n. n + 1) c.loop-s.invariant.length;
      each = λ k below. subst (λ xs. get_or (map (λ x. x.now) xs) k [] ≡ (if nat_eq k c.args.source then c.args.changes.now else [])) (sym c.in_ok-push.ensures.items)
          (mapped-each-more (λ x. x.now) (λ j list. list ≡ (if nat_eq j c.args.source then c.args.changes.now else [])) items c.list_at.result c.loop-s.s [] c.loop-s.invariant.length c.loop-s.invariant.each c.list_at.ensures k below);
    }
