use Rattle.std.proofs.Common.{◌+◌, [], ◌∷◌, ap, below_more, get_or, length, length-append, map, subst, sym, ◌∙◌}
use Rattle.dataflow.specs.Evaluation.{dataset_at}
use Rattle.datasets.specs.Dataset.{empty}
use Rattle.weighted_set.specs.Changes.{IsChangeList}
use Rattle.weighted_set.specs.Held.{AllInRange, HeldDatasets}
use Rattle.flow_graph.proofs.Lists.{mapped-each-more}
use Rattle.dataflow.proofs.Evaluated.{get_or-map_at}
use Rattle.flow_graph.specs.Fresh.{committed_family}
use Rattle.flow_graph.proofs.rows.all_rows.Goals as goal

pub loop-s-preserved : goal.loop-s-preserved
loop-s-preserved c =
    let items = c.loop-s.lists.items in
    let sources = c.args.sources.now in
    let rows = c.in_ok-rows.rows in
    let here = get_or-map_at (λ (h : HeldDatasets). h.committed) sources c.loop-s.s c.at.result.now empty c.at.ensures in
    record {
      length = ap length c.in_ok-push.ensures.items ∙ length-append items (rows ∷ []) ∙ ap (λ n. n + 1) c.loop-s.invariant.length;
      each = λ k below. subst (λ xs. IsChangeList (get_or (map (λ x. x.items) xs) k []) empty (dataset_at (committed_family sources) k)) (sym c.in_ok-push.ensures.items)
          (mapped-each-more (λ x. x.items) (λ j list. IsChangeList list empty (dataset_at (committed_family sources) j)) items rows c.loop-s.s [] c.loop-s.invariant.length c.loop-s.invariant.each
          (subst (IsChangeList rows.items empty) (sym here) c.in_ok-rows.ensures.changes) k below);
      in_range = λ k below. below_more (λ j. AllInRange (dataset_at (committed_family sources) j)) c.loop-s.s c.loop-s.invariant.in_range (subst AllInRange (sym here) c.all_changes.ensures.in_range) k below;
    }
