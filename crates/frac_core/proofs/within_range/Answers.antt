use Rattle.std.proofs.Common.{arith, ◌<◌, ◌^◌, pos, unsigned_abs, sym, ap, ◌∙◌, Some}
use Rattle.std.proofs.lemmas.Int.{ints}
use Rattle.ratios.specs.Ratio.{ratio}
use Rattle.ratios.proofs.Parts.{ratio-num-reduced, ratio-den-reduced}
use Rattle.ratios.proofs.Range.{InRange-from_bounds, checked-in, checked-out}
use Rattle.frac_core.proofs.Reducing.{cast_is, num_out, den_out}
use Rattle.frac_core.proofs.within_range.Goals as goal
use Rattle.frac_core.proofs.within_range.Goals.{then-unsigned_abs-ge-LIMIT-via-then-unsigned_abs-ge-LIMIT, then-unsigned_abs-ge-LIMIT-via-else-unsigned_abs-ge-LIMIT+then-den-ge-LIMIT}

pub returns-then-unsigned_abs-ge-LIMIT : goal.returns-then-unsigned_abs-ge-LIMIT
returns-then-unsigned_abs-ge-LIMIT c =
    let q = ratio c.args.num (pos c.args.den) in
    sym (checked-out q (elim c.then-unsigned_abs-ge-LIMIT.branch [
      | then-unsigned_abs-ge-LIMIT-via-then-unsigned_abs-ge-LIMIT w ↦ num_out q c.args.num (ratio-num-reduced c.args.num c.args.den c.requires) (omega (arith, ints))
      | then-unsigned_abs-ge-LIMIT-via-else-unsigned_abs-ge-LIMIT+then-den-ge-LIMIT w ↦ den_out q c.args.den (ratio-den-reduced c.args.num c.args.den c.requires) (omega (arith, ints))
    ]))

pub invariant_of-result : goal.invariant_of-result
invariant_of-result c =
    let h : unsigned_abs c.args.num < 2 ^ 62 = omega (arith, ints) in
    rw (cast_is c.args.num h) (c.requires, h, omega arith)

pub returns : goal.returns
returns c =
    let q = ratio c.args.num (pos c.args.den) in
    let h : unsigned_abs c.args.num < 2 ^ 62 = omega (arith, ints) in
    let k : unsigned_abs (ratio c.args.num (pos c.args.den)).num < 2 ^ 62 = omega (arith, ap unsigned_abs (ratio-num-reduced c.args.num c.args.den c.requires), h) in
    let m : (ratio c.args.num (pos c.args.den)).den < 2 ^ 62 = omega (arith, ratio-den-reduced c.args.num c.args.den c.requires) in
    ap Some (ap (λ n. ratio n (pos c.args.den)) (cast_is c.args.num h)) ∙ sym (checked-in q (InRange-from_bounds q k m))
