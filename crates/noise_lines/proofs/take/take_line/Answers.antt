use Rattle.std.proofs.Common.{[], ◌∷◌, ◌++◌, refl, ◌∙◌, length-append, arith}
use Rattle.noise_lines.proofs.Parts.{kept-more, kept-none, part-more, part-none}
use Rattle.noise_lines.proofs.take.take_line.Goals as goal

pub loop-count-init : goal.loop-count-init
loop-count-init g c = ([], part-none _, kept-none _ (omega (arith, c.len-kept.ensures.value, c.len-kept.ensures.limit)), refl, omega arith)

pub loop-count-preserved : goal.loop-count-preserved
loop-count-preserved g c =
    let so_far = c.loop-count.invariant in
    let byte = c.in-Ok-Some.byte in
    let taken = rw c.in-Ok-Some.field-0-is at c.in-Ok-Some.ensures.byte in (
      so_far.0 ++ byte ∷ [],
      part-more _ _ _ so_far.0 byte so_far.1 c.in-Ok-Some.byte-test.1 taken,
      c.push.ensures ∙ kept-more _ so_far.0 _ byte so_far.2,
      omega (arith, length-append so_far.0 (byte ∷ []), so_far.3),
      omega (arith, so_far.4, c.next_byte.ensures.cause.later),
    )
