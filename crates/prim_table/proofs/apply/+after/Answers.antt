use Rattle.std.proofs.Common.{◌∙◌, ap, sym, drop, ◌-◌, rules}
use Rattle.std.specs.Str.{chars}
use Rattle.std.proofs.lemmas.Str.{chars_past_char}
use Rattle.prim_table.proofs.Parts.{drop_past}
use Rattle.prim_table.proofs.apply.+after.Goals as goal

pub returns-in-Some : goal.returns-in-Some
returns-in-Some t c =
    let past = chars_past_char c.args.text.now _ c.in-Some.field-0 (search rules) (sym c.chars-rest.ensures.rest ∙ c.in-Some.ensures.steps.0) in
    c.after.ensures ∙ ap (λ rest. drop (c.args.left_out - 1) (chars rest)) c.as_str.ensures
    ∙ drop_past c.args.left_out c.in-Some.field-0 _ (search rules) ∙ ap (drop c.args.left_out) (sym past)
