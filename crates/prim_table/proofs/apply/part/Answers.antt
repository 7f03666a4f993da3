use Rattle.std.proofs.Common.{◌≡◌, ◌≤◌, ◌<◌, length, ap, Err, rules, arith}
use Rattle.prim_table.specs.Primitives.{text_part}
use Rattle.prim_table.proofs.Parts.{part_short}
use Rattle.prim_table.proofs.apply.part.Goals as goal

pub unreachable-requires : goal.unreachable-requires
unreachable-requires c =
    let over : 255 < length c.as_str.result.now = c.in-Err-Long.ensures.long.0 (ap Err c.in-Err-Long.field-0-is) in
    let short : length (text_part c.args.text.now c.args.left_out c.args.kept) ≤ length c.args.text.now = part_short c.args.text.now c.args.left_out c.args.kept c.utf8.text in
    let same : c.as_str.result.now ≡ text_part c.args.text.now c.args.left_out c.args.kept = search rules in
    let long : 255 < length (text_part c.args.text.now c.args.left_out c.args.kept) = rw same at over in
    let bound : length c.args.text.now ≤ 255 = c.requires in
    omega (arith, short, long, bound)
