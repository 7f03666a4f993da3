use Rattle.std.proofs.Common.{◌≡◌, ◌∙◌, ◌≤◌, length, rules, w64}
use Rattle.std.specs.Str.Parse.{without_leading_sign}
use Rattle.std.proofs.lemmas.Int.{to_z-of_z}
use Rattle.prim_table.specs.Primitives.{number_of}
use Rattle.prim_table.proofs.Numerals.{number_parsed}
use Rattle.prim_table.proofs.apply.number.Goals as goal

pub returns : goal.returns
returns c =
    let short : length (without_leading_sign c.args.text.now) ≤ 19 = search rules in
    let read : c.unwrap_or.result ≡ number_of c.args.text.now = c.unwrap_or.ensures ∙ number_parsed c.args.text.now c.parse.result c.parse.ensures.value.0 short in
    to_z-of_z w64 c.unwrap_or.result (search rules) ∙ read
