-- An expression that the walk gives is within the limits of plans.
use Rattle.std.proofs.Common.{◌≡◌, ℕ, zero, suc, ◌+◌, ◌≤◌, nat_le, true, Option, Some, None, Result, Ok, refl, sym, ap, ◌∙◌, arith, is_some, List, [], ◌∷◌, length}
use Rattle.std.proofs.Math.Dec.{eqb-suc-zero}
use Rattle.std.proofs.Math.Numerals.{sub-one}
use Rattle.std.proofs.lemmas.Bool.{le-leb}
use Rattle.json_fields.specs.Walk.{each}
use Rattle.serde_json.specs.Data.{Data}
use Rattle.plan_model.specs.declared.expr.Expr.{Expr}
use Rattle.plan_model.specs.declared.expr.Expr.TheVariants.{Col, Const, One, Two, Three}
use Rattle.plan_model.specs.Limits.{depth, node_count, has_width, is_expr, are_exprs}
use Rattle.plan_model.specs.Sizes.{max_depth, max_nodes, max_width}
use Rattle.plan_model.specs.Values.{has_places, term_of}
use Rattle.prim_table.specs.Tables.{args1, args2, args3}
use Rattle.record_text.specs.declared.atom.Atom.{Atom}
use Rattle.expr_text.specs.declared.fault.Limit.TheVariants as limit
use Rattle.expr_text.specs.declared.fault.Place.{Place}
use Rattle.expr_text.specs.declared.fault.PlanText.{PlanText}
use Rattle.expr_text.specs.declared.fault.PlanText.TheVariants as fault
use Rattle.expr_text.specs.Exprs.{expr_at, node_expr, expr_in, member_in, exprs_in, few}
use Rattle.expr_text.specs.Fields.{list_in}
use Rattle.expr_text.specs.Forms.{Node, col_node, const_node, one_node, two_node, three_node, form_of}
use Rattle.expr_text.proofs.SoundNodes.{IsSound, sound-form_of}
use Rattle.expr_text.proofs.Walks.{cond_ok, is_size-each, length-each, some-list_in}
use Rattle.plan_model.proofs.Terms.{term_of-Col, term_of-Const, term_of-One, term_of-Two, term_of-Three}
use Rattle.json_fields.proofs.Walks.{both_steps}

-- at most so many levels deep, the nodes and those that are left together as many as there were, and each
-- primitive at a place of its table
pub record IsWithin (levels nodes : ℕ) (x : Expr × ℕ) : Type 0 where
  pub deep : depth (term_of x.0) ≤ levels
  pub count : node_count (term_of x.0) + x.1 ≡ nodes
  pub places : has_places (term_of x.0) ≡ true

-- ---- one node

within-Col : (levels nodes c : ℕ) → IsWithin (suc levels) (suc nodes) (Col c, nodes)
within-Col levels nodes c = record {
  deep = rw term_of-Col (omega arith);
  count = rw term_of-Col (omega arith);
  places = rw term_of-Col refl;
}

within-Const : (levels nodes : ℕ) (atom : Atom) → IsWithin (suc levels) (suc nodes) (Const atom, nodes)
within-Const levels nodes atom = record {
  deep = rw term_of-Const (omega arith);
  count = rw term_of-Const (omega arith);
  places = rw term_of-Const refl;
}

within-One : (levels nodes at : ℕ) (x : Expr × ℕ) → is_some (args1 at) ≡ true → IsWithin levels nodes x →
    IsWithin (suc levels) (suc nodes) (One at x.0, x.1)
within-One levels nodes at x placed h = record {
  deep = rw term_of-One (omega (arith, h.deep));
  count = rw term_of-One (omega (arith, h.count));
  places = rw (term_of-One, placed, h.places) refl;
}

within-Two : (levels nodes at : ℕ) (x y : Expr × ℕ) → is_some (args2 at) ≡ true → IsWithin levels nodes x → IsWithin levels x.1 y →
    IsWithin (suc levels) (suc nodes) (Two at x.0 y.0, y.1)
within-Two levels nodes at x y placed h k = record {
  deep = rw term_of-Two (omega (arith, h.deep, k.deep));
  count = rw term_of-Two (omega (arith, h.count, k.count));
  places = rw (term_of-Two, placed, h.places, k.places) refl;
}

within-Three : (levels nodes at : ℕ) (x y z : Expr × ℕ) → is_some (args3 at) ≡ true →
    IsWithin levels nodes x → IsWithin levels x.1 y → IsWithin levels y.1 z →
    IsWithin (suc levels) (suc nodes) (Three at x.0 y.0 z.0, z.1)
within-Three levels nodes at x y z placed h k l = record {
  deep = rw term_of-Three (omega (arith, h.deep, k.deep, l.deep));
  count = rw term_of-Three (omega (arith, h.count, k.count, l.count));
  places = rw (term_of-Three, placed, h.places, k.places, l.places) refl;
}

-- where each argument is within the levels below
within-node : (place : Place) (levels nodes : ℕ) (below : ℕ → Data → Result (Expr × ℕ) PlanText) →
    ((n : ℕ) (d : Data) (y : Expr × ℕ) → below n d ≡ Ok y → IsWithin levels n y) →
    (node : Option Node) (x : Expr × ℕ) → IsSound node → node_expr place below nodes node ≡ Ok x → IsWithin (suc levels) (suc nodes) x
within-node place levels nodes below h None x sound e = cc
within-node place levels nodes below h (Some (col_node c)) x sound e =
    let same : (Col c, nodes) ≡ x = cc in rw (← same) (within-Col levels nodes c)
within-node place levels nodes below h (Some (const_node atom)) x sound e =
    let same : (Const atom, nodes) ≡ x = cc in rw (← same) (within-Const levels nodes atom)
within-node place levels nodes below h (Some (one_node at a)) x sound e =
    let first = both_steps (below nodes a) _ x e in
    let same : (One at first.0.0, first.0.1) ≡ x = (let last = first.2 in cc) in
    rw (← same) (within-One levels nodes at first.0 sound (h nodes a first.0 first.1))
within-node place levels nodes below h (Some (two_node at a b)) x sound e =
    let first = both_steps (below nodes a) _ x e in
    let second = both_steps (below first.0.1 b) _ x first.2 in
    let same : (Two at first.0.0 second.0.0, second.0.1) ≡ x = (let last = second.2 in cc) in
    rw (← same) (within-Two levels nodes at first.0 second.0 sound (h nodes a first.0 first.1) (h first.0.1 b second.0 second.1))
within-node place levels nodes below h (Some (three_node at a b c)) x sound e =
    let first = both_steps (below nodes a) _ x e in
    let second = both_steps (below first.0.1 b) _ x first.2 in
    let third = both_steps (below second.0.1 c) _ x second.2 in
    let same : (Three at first.0.0 second.0.0 third.0.0, third.0.1) ≡ x = (let last = third.2 in cc) in
    rw (← same) (within-Three levels nodes at first.0 second.0 third.0 sound
    (h nodes a first.0 first.1) (h first.0.1 b second.0 second.1) (h second.0.1 c third.0 third.1))

-- ---- expressions

within-expr_at : (place : Place) (levels nodes : ℕ) (d : Data) (x : Expr × ℕ) → expr_at place levels nodes d ≡ Ok x → IsWithin levels nodes x
unfolding expr_at
within-expr_at place zero nodes d x e = cc
within-expr_at place (suc levels) zero d x e = cc
within-expr_at place (suc levels) (suc nodes) d x e =
    within-node place levels nodes (expr_at place levels) (λ n d y is. within-expr_at place levels n d y is) (form_of d) x (sound-form_of d)
    (rw (eqb-suc-zero nodes, sub-one (suc nodes)) at e)

pub is_expr-expr_in : (place : Place) (d : Data) (e : Expr) → expr_in place d ≡ Ok e → is_expr e ≡ true
is_expr-expr_in place d e is =
    let walked = both_steps (expr_at place max_depth max_nodes d) _ e is in
    let within = within-expr_at place max_depth max_nodes d walked.0 walked.1 in
    let same : walked.0.0 ≡ e = (let last = walked.2 in cc) in
    rw (← same, le-leb (depth (term_of walked.0.0)) max_depth within.deep, le-leb (node_count (term_of walked.0.0)) max_nodes (omega (arith, within.count)), within.places) refl

pub are_exprs-each : (place : Place) (i : ℕ) (ds : List Data) (es : List Expr) → each (member_in place) i ds ≡ Ok es → are_exprs es ≡ true
are_exprs-each place i [] es e = let none : [] ≡ es = cc in rw (← none) refl
are_exprs-each place i (d ∷ ds) es e =
    let first = both_steps (member_in place i d) _ es e in
    let rest = both_steps (each (member_in place) (i + 1) ds) _ es first.2 in
    let is : first.0 ∷ rest.0 ≡ es = (let last = rest.2 in cc) in
    rw (← is, is_expr-expr_in place d first.0 first.1, are_exprs-each place (i + 1) ds rest.0 rest.1) refl

pub are_exprs-exprs_in : (place : Place) (found : Option Data) (es : List Expr) → exprs_in place found ≡ Ok es → are_exprs es ≡ true
are_exprs-exprs_in place found es e =
    let list = both_steps (list_in place found) _ es e in
    let members = both_steps (few place list.0) _ es list.2 in
    are_exprs-each place 0 members.0 es members.2

-- a list that the walk gives has 1 to 16 members
pub has_width-exprs_in : (place : Place) (found : Option Data) (es : List Expr) → exprs_in place found ≡ Ok es → has_width es ≡ true
has_width-exprs_in place found es e =
    let list = both_steps (list_in place found) _ es e in
    let members = both_steps (few place list.0) _ es list.2 in
    let short = cond_ok (nat_le (length list.0) max_width) list.0 members.0 (fault.Over place.step limit.Width) members.1 in
    let one_each : length es ≡ length list.0 = length-each (member_in place) 0 members.0 es members.2 ∙ ap length (sym short.1) in
    is_size-each max_width list.0 es one_each (some-list_in place found list.0 list.1) short.0
