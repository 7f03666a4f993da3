-- Each piece is above 0.
use Rattle.std.specs.Prelude.{◌++◌, [], ◌∷◌}
use Rattle.std.specs.List.{list_all}
use Rattle.std.proofs.Common.{ap, ◌∙◌}
use Rattle.ratios.specs.Ratio.{Ratio, one_ratio, zero_ratio}
use Rattle.plan_model.specs.Limits.{is_run}
use Rattle.plan_model.specs.declared.step.Run.{Run}
use Rattle.trial_rows.proofs.pieces.two_pieces.Goals as goal

abbrev piece : Ratio → Run
piece w = record { weight = w; times = 2 }

pub returns-clause-runs : goal.returns-clause-runs
unfolding one_ratio zero_ratio
returns-clause-runs c =
    ap (list_all is_run) (c.from_vec.ensures ∙ c.in_ok-push.ensures.items ∙ ap (λ runs. runs ++ piece c.one.result ∷ []) c.new-list.ensures.items)
    ∙ ap (λ w. list_all is_run (piece w ∷ [])) c.one.ensures
