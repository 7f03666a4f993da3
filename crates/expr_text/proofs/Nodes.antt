-- The walk over one node of an expression.
use Rattle.std.proofs.Common.{◌≡◌, ℕ, zero, suc, ◌-◌, ◌<◌, Some, Ok, refl, arith}
use Rattle.std.proofs.Math.Dec.{eqb-suc-zero}
use Rattle.std.proofs.Math.Numerals.{sub-one}
use Rattle.serde_json.specs.Data.{Data}
use Rattle.plan_model.specs.declared.expr.Expr.{Expr}
use Rattle.plan_model.specs.declared.expr.Expr.TheVariants.{One, Two, Three}
use Rattle.expr_text.specs.declared.fault.Place.{Place}
use Rattle.expr_text.specs.Forms.{one_node, two_node, three_node, form_of}
use Rattle.expr_text.specs.Exprs.{expr_at, node_expr}

-- with a level and a node left, the expression is that of the node
pub expr_at-node : (place : Place) (levels nodes : ℕ) (d : Data) → 0 < levels → 0 < nodes →
    expr_at place levels nodes d ≡ node_expr place (expr_at place (levels - 1)) (nodes - 1) (form_of d)
unfolding expr_at
expr_at-node place zero nodes d some left = absurd (omega arith)
expr_at-node place (suc levels) zero d some left = absurd (omega arith)
expr_at-node place (suc levels) (suc nodes) d some left = rw (sub-one (suc nodes), sub-one (suc levels)) (rw (eqb-suc-zero nodes) refl)

pub one_at : (place : Place) (levels nodes : ℕ) (d : Data) (at : ℕ) (a : Data) (x : Expr) (m : ℕ) → 0 < levels → 0 < nodes →
    form_of d ≡ Some (one_node at a) → expr_at place (levels - 1) (nodes - 1) a ≡ Ok (x, m) →
    expr_at place levels nodes d ≡ Ok (One at x, m)
one_at place levels nodes d at a x m some left is first =
    rw (expr_at-node place levels nodes d some left, is, first) refl

pub two_at : (place : Place) (levels nodes : ℕ) (d : Data) (at : ℕ) (a b : Data) (x y : Expr) (m n : ℕ) → 0 < levels → 0 < nodes →
    form_of d ≡ Some (two_node at a b) →
    expr_at place (levels - 1) (nodes - 1) a ≡ Ok (x, m) → expr_at place (levels - 1) m b ≡ Ok (y, n) →
    expr_at place levels nodes d ≡ Ok (Two at x y, n)
two_at place levels nodes d at a b x y m n some left is first second =
    rw (expr_at-node place levels nodes d some left, is, first, second) refl

pub three_at : (place : Place) (levels nodes : ℕ) (d : Data) (at : ℕ) (a b c : Data) (x y z : Expr) (m n o : ℕ) → 0 < levels → 0 < nodes →
    form_of d ≡ Some (three_node at a b c) →
    expr_at place (levels - 1) (nodes - 1) a ≡ Ok (x, m) → expr_at place (levels - 1) m b ≡ Ok (y, n) → expr_at place (levels - 1) n c ≡ Ok (z, o) →
    expr_at place levels nodes d ≡ Ok (Three at x y z, o)
three_at place levels nodes d at a b c x y z m n o some left is first second third =
    rw (expr_at-node place levels nodes d some left, is, first, second, third) refl
