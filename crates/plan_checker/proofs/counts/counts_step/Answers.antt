use Rattle.std.specs.Prelude.{◌++◌, ◌∷◌, []}
use Rattle.std.proofs.Common.{ap₂, sym, ◌∙◌, arith}
use Rattle.std.proofs.lemmas.List.FromFn.{map-range_with_len_more}
use Rattle.plan_model.specs.Uses.{uses_step}
use Rattle.plan_checker.specs.Steps.{counts_of}
use Rattle.plan_checker.proofs.counts.counts_step.Goals as goal

pub loop-source-preserved : goal.loop-source-preserved
loop-source-preserved c =
    c.in_ok-push.ensures.items ∙ ap₂ (λ ns n. ns ++ n ∷ []) c.loop-source.invariant c.uses_of.ensures
    ∙ sym (map-range_with_len_more (λ source. uses_step c.args.types.now source c.args.step.now (counts_of source c.args.made.now)) 0 c.loop-source.source c.loop-source.source (omega arith))
