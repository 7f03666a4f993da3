use Rattle.std.proofs.Common.{◌++◌, ap, arith, length, subst, sym, ◌∙◌}
use Rattle.weighted_set.proofs.Running.{length-entries_of}
use Rattle.std.proofs.lemmas.Result.{err_from_is_err_and}
use Rattle.ratios.specs.Ratio.{ratio_mul}
use Rattle.datasets.specs.Dataset.{set_at}
use Rattle.datasets.specs.Entries.{AreRising, rows_of, weight_in}
use Rattle.weighted_set.specs.Changes.{entries_of}
use Rattle.weighted_set.specs.Parts.{pending_part}
use Rattle.engines.specs.Products.{products_in_range, with_products}
use Rattle.engines.proofs.Pending.{entries_of_slice, parts_more}
use Rattle.engines.proofs.Touched.{untouched_put}
use Rattle.engines.proofs.inputs.put_change.Goals as goal

pub put_at_keys-requires : goal.put_at_keys-requires
put_at_keys-requires g c =
    let K = g.O.PartOp.keys c.args.op.now c.args.side c.args.change.now.row in
    subst (λ es. AreRising (rows_of es)) (sym (entries_of_slice c.as_slice.result.now c.touch.new.into.items K c.as_slice.ensures.value c.in_ok-touch.ensures.ok)) K.rising

pub returns-clause-pending : goal.returns-clause-pending
returns-clause-pending g c =
    let op = c.args.op.now in
    let change = c.args.change.now in
    parts_more (g.O.PartOp.keys op c.args.side) change.row change.new (entries_of c.as_slice.result.now)
    (entries_of_slice c.as_slice.result.now c.touch.new.into.items (g.O.PartOp.keys op c.args.side change.row) c.as_slice.ensures.value c.in_ok-touch.ensures.ok) (pending_part c.args.store.now) (pending_part c.put_at_keys.new.store) c.in_ok-put_at_keys.ensures.pending

pub returns-clause-touched : goal.returns-clause-touched
returns-clause-touched g c k n =
    let change = c.args.change.now in
    let listed = entries_of c.touch.new.into.items in
    untouched_put c.args.touched.now.items c.note_keys.new.touched.items (rows_of listed) c.in_ok-note_keys.ensures
    (λ k. set_at change.row (ratio_mul change.new (weight_in listed k)) (pending_part c.args.store.now k)) (pending_part c.args.store.now) (pending_part c.put_at_keys.new.store)
    (λ k. c.in_ok-put_at_keys.ensures.pending k ∙ ap (λ es. with_products change.row change.new es (pending_part c.args.store.now) k) (ap entries_of c.as_slice.ensures.value)) k n

pub returns-clause-noted : goal.returns-clause-noted
returns-clause-noted g c = c.in_ok-note_keys.ensures ∙ ap (λ es. c.args.touched.now.items ++ rows_of es) c.in_ok-touch.ensures.ok

pub returns-clause-fits : goal.returns-clause-fits
returns-clause-fits g c =
    let K = g.O.PartOp.keys c.args.op.now c.args.side c.args.change.now.row in
    ap (products_in_range c.args.change.now.new) (sym (entries_of_slice c.as_slice.result.now c.touch.new.into.items K c.as_slice.ensures.value c.in_ok-touch.ensures.ok)) ∙ c.in_ok-put_at_keys.ensures.fits

pub returns-in_err-put_at_keys-clause-range : goal.returns-in_err-put_at_keys-clause-range
returns-in_err-put_at_keys-clause-range g c =
    let K = g.O.PartOp.keys c.args.op.now c.args.side c.args.change.now.row in
    let same = entries_of_slice c.as_slice.result.now c.touch.new.into.items K c.as_slice.ensures.value c.in_ok-touch.ensures.ok in
    let p = err_from_is_err_and c.from_residual-in_err-put_at_keys.result c.from_residual-in_err-put_at_keys.ensures.1 in
    rw (p.1, p.2) (λ e. ap (products_in_range c.args.change.now.new) (sym same) ∙ c.in_err-put_at_keys.ensures.range e)

pub returns-clause-ticks : goal.returns-clause-ticks
returns-clause-ticks g c =
    let K = g.O.PartOp.keys c.args.op.now c.args.side c.args.change.now.row in
    let count = sym (length-entries_of c.as_slice.result.now) ∙ ap length (entries_of_slice c.as_slice.result.now c.touch.new.into.items K c.as_slice.ensures.value c.in_ok-touch.ensures.ok) in
    let here = c.in_ok-put_at_keys.ensures.ticks in
    omega (arith, here, count)

pub returns-in_err-put_at_keys-clause-ticks : goal.returns-in_err-put_at_keys-clause-ticks
returns-in_err-put_at_keys-clause-ticks g c =
    let K = g.O.PartOp.keys c.args.op.now c.args.side c.args.change.now.row in
    let count = sym (length-entries_of c.as_slice.result.now) ∙ ap length (entries_of_slice c.as_slice.result.now c.touch.new.into.items K c.as_slice.ensures.value c.in_ok-touch.ensures.ok) in
    let here = c.in_err-put_at_keys.ensures.ticks in
    omega (arith, here, count)
