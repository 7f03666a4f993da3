-- The terms of expressions, one node at a time.
use Rattle.std.proofs.Common.{◌≡◌, ℕ, ◌∙◌, ap, sym}
use Rattle.record_text.specs.declared.atom.Atom.{Atom}
use Rattle.plan_model.specs.declared.expr.Expr.{Expr, fold-roll-Expr}
use Rattle.plan_model.specs.declared.expr.Expr.TheOpen.{Expr-F}
use Rattle.plan_model.specs.declared.expr.Expr.TheVariants.{Col, Const, One, Two, Three, rolls-Col, rolls-Const, rolls-One, rolls-Two, rolls-Three}
use Rattle.plan_model.specs.Values.{Term, col, const, one, two, three, term_of, term_step}

pub term_of-Col : (c : ℕ) → term_of (Col c) ≡ col c
term_of-Col c = ap term_of (sym (rolls-Col c)) ∙ fold-roll-Expr Term term_step (Expr-F.Col c)

pub term_of-Const : (a : Atom) → term_of (Const a) ≡ const a
term_of-Const a = ap term_of (sym (rolls-Const a)) ∙ fold-roll-Expr Term term_step (Expr-F.Const a)

pub term_of-One : (p : ℕ) (a : Expr) → term_of (One p a) ≡ one p (term_of a)
term_of-One p a = ap term_of (sym (rolls-One p a)) ∙ fold-roll-Expr Term term_step (Expr-F.One p a)

pub term_of-Two : (p : ℕ) (a b : Expr) → term_of (Two p a b) ≡ two p (term_of a) (term_of b)
term_of-Two p a b = ap term_of (sym (rolls-Two p a b)) ∙ fold-roll-Expr Term term_step (Expr-F.Two p a b)

pub term_of-Three : (p : ℕ) (a b c : Expr) → term_of (Three p a b c) ≡ three p (term_of a) (term_of b) (term_of c)
term_of-Three p a b c = ap term_of (sym (rolls-Three p a b c)) ∙ fold-roll-Expr Term term_step (Expr-F.Three p a b c)
