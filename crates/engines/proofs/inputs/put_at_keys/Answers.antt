use Rattle.std.proofs.Common.{arith, sym, ◌∙◌}
use Rattle.ratios.specs.Ratio.{ratio_mul}
use Rattle.ratios.proofs.Range.{checked_none, checked_some, in_range-out}
use Rattle.weighted_set.specs.Parts.{pending_part}
use Rattle.engines.proofs.Pending.{put_more}
use Rattle.engines.proofs.Products.{product_out, products_more}
use Rattle.engines.proofs.inputs.put_at_keys.Goals as goal

pub loop-key-preserved : goal.loop-key-preserved
loop-key-preserved g c =
    let inv = c.loop-key.invariant in
    let put = c.in_ok-put_pending.ensures in
    let change = c.args.change.now in
    let key = c.key-item.result in
    let weight = c.in-Some.weight in
    let product = checked_some (ratio_mul change.new key.weight) weight (sym c.in-Some.ensures) in
    record {
      committed = λ k. put.committed k ∙ inv.committed k;
      pending = put_more c.args.keys.now c.requires c.loop-key.key-index key c.loop-key-test.true c.key-item.is change.row change.new weight product.1 (pending_part c.args.store.now) (pending_part c.loop-key.store) (pending_part c.put_pending.new.self) inv.pending put.ok;
      fits = products_more change.new c.args.keys.now c.loop-key.key-index key c.loop-key-test.true c.key-item.is inv.fits product.0;
      ticks = let before = inv.ticks in let here = put.ticks in omega (arith, before, here);
    }

pub returns-in_default-clause-range : goal.returns-in_default-clause-range
returns-in_default-clause-range g c e =
    let change = c.args.change.now in
    let key = c.key-item.result in
    product_out change.new c.args.keys.now c.loop-key.key-index key c.loop-key-test.true c.key-item.is (in_range-out (ratio_mul change.new key.weight) (checked_none (ratio_mul change.new key.weight) (sym c.in_default.ensures)))
