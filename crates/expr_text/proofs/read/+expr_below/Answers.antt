use Rattle.std.proofs.Common.{Some, ap, arith, sym, ◌∙◌}
use Rattle.expr_text.specs.Forms.{form_view}
use Rattle.expr_text.proofs.Nodes.{two_at, three_at}
use Rattle.expr_text.proofs.SoundNodes.{text_is_short}
use Rattle.expr_text.proofs.read.+expr_below.Goals as goal

pub text_atom-requires : goal.text_atom-requires
text_atom-requires t c = text_is_short _ _ (sym c.in-Some.ensures ∙ ap (λ f. Some (form_view f)) c.in-Text.is)

pub returns-in_ok-two_of-in-Two : goal.returns-in_ok-two_of-in-Two
returns-in_ok-two_of-in-Two t c =
    rw c.in_ok-two_of-in-Two.ensures
    (two_at _ _ _ _ _ _ _ _ _ _ _ (omega arith) (omega arith) (sym c.in-Some.ensures ∙ ap (λ f. Some (form_view f)) c.in-Two.is)
    c.in_ok-a-in-Two.ensures c.in_ok-b-in-Two.ensures)

pub returns-in_ok-three_of-in-Three : goal.returns-in_ok-three_of-in-Three
returns-in_ok-three_of-in-Three t c =
    rw c.in_ok-three_of-in-Three.ensures
    (three_at _ _ _ _ _ _ _ _ _ _ _ _ _ _ (omega arith) (omega arith) (sym c.in-Some.ensures ∙ ap (λ f. Some (form_view f)) c.in-Three.is)
    c.in_ok-a-in-Three.ensures c.in_ok-b-in-Three.ensures c.in_ok-c-in-Three.ensures)
