use Rattle.std.proofs.Common.{◌≡◌, ◌<◌, ◌≤◌, ◌∙◌, length, ap, arith, Err}
use Rattle.record_text.proofs.Numerals.{text_of_field-broken, text_of_field-long, text_of_field-short}
use Rattle.record_text.proofs.field.text_from_field.Goals as goal

pub returns-in_default-clause-atom : goal.returns-in_default-clause-atom
returns-in_default-clause-atom c = text_of_field-broken c.args.field.now c.in_default.ensures.cases.0

pub returns-in-Ok-new-clause-atom : goal.returns-in-Ok-new-clause-atom
returns-in-Ok-new-clause-atom c =
    let same : c.in-Ok-new.text ≡ c.args.field.now = c.in-Ok-new.ensures.value ∙ c.in-Ok.ensures.cases.0 in
    let short : length c.args.field.now ≤ 255 = rw same at c.in-Ok-new.ensures.short in
    rw same (text_of_field-short c.args.field.now c.in-Ok.ensures.cases.1 short)

pub returns-in-Err-Long-clause-atom : goal.returns-in-Err-Long-clause-atom
returns-in-Err-Long-clause-atom c =
    let over : 255 < length c.in-Ok.text.now = c.in-Err-Long.ensures.long.0 (ap Err c.in-Err-Long.field-0-is) in
    let long : 255 < length c.args.field.now = rw c.in-Ok.ensures.cases.0 at over in
    text_of_field-long c.args.field.now c.in-Ok.ensures.cases.1 long

-- the text is copied only where it isn't too long
pub returns-in-Err-Memory-clause-memory : goal.returns-in-Err-Memory-clause-memory
returns-in-Err-Memory-clause-memory c =
    let not_long : 255 < length c.in-Ok.text.now → ⊥ = λ over. let long = c.in-Err-Memory.ensures.long.1 over in cc in
    let within : length c.in-Ok.text.now ≤ 255 = omega arith in
    let short : length c.args.field.now ≤ 255 = rw c.in-Ok.ensures.cases.0 at within in
    rw (text_of_field-short c.args.field.now c.in-Ok.ensures.cases.1 short) tt
