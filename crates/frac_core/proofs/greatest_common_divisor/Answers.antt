use Rattle.std.specs.Int.{IsGcd}
use Rattle.std.proofs.Common.{◌%◌, arith, subst, sym}
use Rattle.std.proofs.Math.Nat.{mod-one}
use Rattle.std.proofs.lemmas.Nat.Gcd.{IsGcd-from_zero, IsGcd-from_mod, same_from_IsGcd}
use Rattle.ratios.specs.Gcd.{IsGcd-gcd}
use Rattle.frac_core.proofs.greatest_common_divisor.Goals as goal

pub loop-y-preserved : goal.loop-y-preserved
loop-y-preserved c g h = c.loop-y.invariant g (IsGcd-from_mod _ _ g h)

pub returns-then-b-eq1 : goal.returns-then-b-eq1
returns-then-b-eq1 c =
    let one = subst (λ n. IsGcd c.args.a n 1) (sym c.if-b-eq1.true) (IsGcd-from_mod c.args.a 1 1 (IsGcd-from_zero 1 (c.args.a % 1) (mod-one c.args.a))) in
    same_from_IsGcd _ _ _ _ one (IsGcd-gcd c.args.a c.args.b)

pub returns : goal.returns
returns c = same_from_IsGcd _ _ _ _ (c.loop-y.invariant _ (IsGcd-from_zero _ _ (omega arith))) (IsGcd-gcd _ _)
