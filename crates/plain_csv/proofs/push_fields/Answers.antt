use Rattle.std.proofs.Common.{[], ◌∷◌, ◌++◌, ap, map, sym, ◌∙◌}
use Rattle.std.proofs.lemmas.List.{map-append}
use Rattle.plain_csv.specs.Plain.{is_comma, plain_fields}
use Rattle.plain_csv.proofs.Lines.{only-part, plain_fields-next, position-within}
use Rattle.plain_csv.proofs.push_fields.Goals as goal

pub cut-requires : goal.cut-requires
cut-requires c = position-within is_comma c.loop-end.rest.now c.in-Some.end c.in-Some.ensures

pub loop-end-preserved : goal.loop-end-preserved
loop-end-preserved c =
    let before = map (λ field. field.now) c.loop-end.fields.items in
    let taken = map (λ field. field.now) c.push.new.self.items in
    let one = ap (map (λ field. field.now)) c.in_ok-push.ensures.items ∙ map-append (λ field. field.now) c.loop-end.fields.items (c.cut.result.0 ∷ []) ∙ ap (λ field. before ++ field ∷ []) c.cut.ensures.before in
    let whole = map (λ field. field.now) c.args.fields.now.items ++ plain_fields c.args.line.now in
    rw c.cut.ensures.behind (plain_fields-next taken before c.loop-end.rest.now c.in-Some.end whole c.in-Some.ensures one c.loop-end.invariant)

pub returns : goal.returns
returns c =
    let last = only-part is_comma c.loop-end.rest.now (sym c.in_default.is ∙ c.field_end.ensures) in
    ap (map (λ field. field.now)) c.in_ok-push-2.ensures.items
    ∙ map-append (λ field. field.now) c.loop-end.fields.items (c.loop-end.rest ∷ [])
    ∙ rw last at c.loop-end.invariant
