use Rattle.std.proofs.Common.{◌++◌, ◌∷◌, [], List, ap, arith, map, refl, sym, take, length, ◌∙◌}
use Rattle.std.proofs.lemmas.Option.{slice_get_read}
use Rattle.datasets.specs.Dataset.{Dataset, at}
use Rattle.plan_model.specs.Evaluation.{eval}
use Rattle.record_text.proofs.Lists.{map-front_more}
use Rattle.session_data.proofs.Becoming.{eval-of_graph}
use Rattle.session_data.proofs.plans.Planned.weights.Goals as goal

pub loop-row-preserved : goal.loop-row-preserved
loop-row-preserved g c =
    let planned = c.args.self.now in
    let rows = c.args.rows.now in
    let i = c.loop-row.row-index in
    let row = c.row-item.result in
    record {
      ticks = let before = c.loop-row.invariant.ticks in let here = c.weight.ensures.work in omega (arith, before, here);
      weights = λ types F h.
          let A = eval planned.plan types F in
          let weight = c.weight.ensures.weight (take (length planned.graph.types) F) h.stands ∙ ap (λ (B : Dataset). at B row) (sym (eval-of_graph types F planned h)) in
          c.in_ok-push.ensures.items ∙ ap (λ ws. ws ++ c.weight.result ∷ []) (c.loop-row.invariant.weights types F h) ∙ ap (λ w. map (at A) (take i rows) ++ w ∷ []) weight
          ∙ sym (map-front_more (at A) rows i row (slice_get_read rows (length rows) i row refl c.loop-row-test.true c.row-item.is));
    }
