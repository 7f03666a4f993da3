use Rattle.std.proofs.Common.{◌≡◌, ◌∙◌, ap, arith, length}
use Rattle.std.proofs.lemmas.List.FromFn.{length-map-range_with_len}
use Rattle.plan_model.specs.Uses.{uses}
use Rattle.checker_tests.proofs.checker.uses_of.Goals as goal

pub uses-requires : goal.uses-requires
uses-requires c =
    let types = c.args.types.now in
    let one_each : length c.in_ok-checked.checked.uses ≡ length types =
    ap (λ told. length told.uses) (c.in_ok-checked.ensures.ok.1) ∙ length-map-range_with_len (uses c.args.plan.now types) 0 (length types) in
    omega (arith, one_each, c.requires)
