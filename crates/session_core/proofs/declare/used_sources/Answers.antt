use Rattle.std.proofs.Common.{ap, arith, sym, ◌∙◌, ◌++◌, ◌∷◌, []}
use Rattle.request_machine.specs.Charges.{ask_of}
use Rattle.session_core.proofs.NewPlans.{used-all, used-counted, used-unused}
use Rattle.session_core.proofs.declare.used_sources.Goals.{then-amount-gt0+in_ok-push, else-amount-gt0}
use Rattle.session_core.proofs.declare.used_sources.Goals as goal

pub loop-source-preserved : goal.loop-source-preserved
loop-source-preserved c =
    let counts = c.args.checked.now.uses in
    let source = c.loop-source.source in
    elim c.if-amount-gt0.branch [
      | then-amount-gt0+in_ok-push w ↦
          ap (λ v. v.items) w.list-is ∙ w.in_ok-push.ensures.items
          ∙ ap (λ used. used ++ ask_of source c.uses-amount.result ∷ []) c.loop-source.invariant
          ∙ sym (used-counted counts source c.uses-amount.result c.uses-amount.ensures w.if-amount-gt0.true)
      | else-amount-gt0 w ↦
          ap (λ v. v.items) w.list-is ∙ c.loop-source.invariant
          ∙ sym (used-unused counts source c.uses-amount.result c.uses-amount.ensures w.if-amount-gt0.false)
    ]

pub returns : goal.returns
returns c = c.loop-source.invariant ∙ used-all c.args.checked.now.uses c.loop-source.source (omega (arith, c.requires, c.loop-source-test.false))
