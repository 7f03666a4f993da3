use Rattle.expr_text.specs.Forms.{primitive_of}
use Rattle.expr_text.proofs.form.primitive.Goals as goal

pub returns-in-Some : goal.returns-in-Some
unfolding primitive_of
returns-in-Some c = rw (c.find.ensures, c.as_bytes.ensures.value, ← c.in-Some.ensures)
