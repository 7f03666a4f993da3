-- An expression that is written reads back.
use Rattle.std.proofs.Common.{◌≡◌, ℕ, suc, ◌+◌, ◌-◌, ◌≤◌, max, List, [], ◌∷◌, Some, Result, Ok, pos, negsuc, refl, arith, lt-ltb, le-leb}
use Rattle.std.specs.Prelude.{slice_get}
use Rattle.serde_json.specs.Data.{Data}
use Rattle.record_text.specs.Held.{IsAtom}
use Rattle.record_text.specs.declared.atom.Atom.{Atom}
use Rattle.record_text.specs.declared.atom.Atom.TheVariants.{Int, Text}
use Rattle.prim_table.specs.Tables.{names1, names2, names3}
use Rattle.plan_model.specs.declared.expr.Expr.{Expr}
use Rattle.plan_model.specs.declared.expr.Expr.TheVariants.{Col, Const, One, Two, Three}
use Rattle.plan_model.specs.Limits.{depth, node_count}
use Rattle.plan_model.specs.Sizes.{max_column}
use Rattle.plan_model.specs.Values.{term_of}
use Rattle.expr_text.specs.declared.fault.Place.{Place}
use Rattle.expr_text.specs.declared.fault.PlanText.{PlanText}
use Rattle.expr_text.specs.Exprs.{expr_at, node_expr}
use Rattle.expr_text.specs.Forms.{col_node, const_node, one_node, two_node, three_node, primitive_of, args_of, form_of}
use Rattle.expr_text.specs.Written.{ReadsAs, col_data, const_data, call_data}
use Rattle.expr_text.proofs.Names.{found-names1, found-names2, found-names3}
use Rattle.expr_text.proofs.Nodes.{expr_at-node, one_at, two_at, three_at}
use Rattle.plan_model.proofs.Terms.{term_of-Col, term_of-Const, term_of-One, term_of-Two, term_of-Three}

-- ---- the forms of what is written

form_of-col_data : (c : ℕ) → c ≤ max_column → form_of (col_data c) ≡ Some (col_node c)
unfolding form_of
form_of-col_data c h = rw (le-leb c max_column h) refl

form_of-const_data : (atom : Atom) → IsAtom atom → form_of (const_data atom) ≡ Some (const_node atom)
unfolding form_of
form_of-const_data (Int (pos n)) held = rw (lt-ltb _ _ held.sfits) refl
form_of-const_data (Int (negsuc n)) held = refl
form_of-const_data (Text text) held = rw (le-leb _ _ held) refl

form_of-call1 : (at : ℕ) (name : List ℕ) (a : Data) → slice_get names1 at ≡ Some name → form_of (call_data name (a ∷ [])) ≡ Some (one_node at a)
unfolding form_of primitive_of args_of
form_of-call1 at name a is = rw (found-names1 at name is) refl

form_of-call2 : (at : ℕ) (name : List ℕ) (a b : Data) → slice_get names2 at ≡ Some name → form_of (call_data name (a ∷ b ∷ [])) ≡ Some (two_node at a b)
unfolding form_of primitive_of args_of
form_of-call2 at name a b is = rw (found-names2 at name is) refl

form_of-call3 : (at : ℕ) (name : List ℕ) (a b c : Data) → slice_get names3 at ≡ Some name → form_of (call_data name (a ∷ b ∷ c ∷ [])) ≡ Some (three_node at a b c)
unfolding form_of primitive_of args_of
form_of-call3 at name a b c is = rw (found-names3 at name is) refl

-- ---- expressions

-- a value whose node has no arguments
reads-leaf : (e : Expr) (d : Data) → depth (term_of e) ≡ 1 → node_count (term_of e) ≡ 1 →
    ((place : Place) (below : ℕ → Data → Result (Expr × ℕ) PlanText) (left : ℕ) → node_expr place below left (form_of d) ≡ Ok (e, left)) → ReadsAs e d
reads-leaf e d one_deep alone leaf place levels left deep =
    let less : node_count (term_of e) + left - 1 ≡ left = omega (arith, alone) in
    rw (expr_at-node place levels (node_count (term_of e) + left) d (omega (arith, one_deep, deep)) (omega (arith, alone)), less)
    (leaf place (expr_at place (levels - 1)) left)

pub reads-Col : (c : ℕ) → c ≤ max_column → ReadsAs (Col c) (col_data c)
reads-Col c h = reads-leaf (Col c) (col_data c) (rw term_of-Col refl) (rw term_of-Col refl) (λ place below left. rw (form_of-col_data c h) refl)

pub reads-Const : (atom : Atom) → IsAtom atom → ReadsAs (Const atom) (const_data atom)
reads-Const atom h = reads-leaf (Const atom) (const_data atom) (rw term_of-Const refl) (rw term_of-Const refl) (λ place below left. rw (form_of-const_data atom h) refl)

pub reads-One : (at : ℕ) (name : List ℕ) (x : Expr) (a : Data) → slice_get names1 at ≡ Some name → ReadsAs x a → ReadsAs (One at x) (call_data name (a ∷ []))
reads-One at name x a is hx place levels left deep =
    let d : suc (depth (term_of x)) ≤ levels = (rw term_of-One at deep) in
    let less : suc (node_count (term_of x)) + left - 1 ≡ node_count (term_of x) + left = omega arith in
    rw term_of-One (one_at place levels (suc (node_count (term_of x)) + left) (call_data name (a ∷ [])) at a x left (omega (arith, d)) (omega arith)
    (form_of-call1 at name a is) (rw less (hx place (levels - 1) left (omega (arith, d)))))

pub reads-Two : (at : ℕ) (name : List ℕ) (x y : Expr) (a b : Data) → slice_get names2 at ≡ Some name → ReadsAs x a → ReadsAs y b →
    ReadsAs (Two at x y) (call_data name (a ∷ b ∷ []))
reads-Two at name x y a b is hx hy place levels left deep =
    let d : suc (max (depth (term_of x)) (depth (term_of y))) ≤ levels = (rw term_of-Two at deep) in
    let less : suc (node_count (term_of x) + node_count (term_of y)) + left - 1 ≡ node_count (term_of x) + (node_count (term_of y) + left) = omega arith in
    rw term_of-Two (two_at place levels (suc (node_count (term_of x) + node_count (term_of y)) + left) (call_data name (a ∷ b ∷ [])) at a b x y
    (node_count (term_of y) + left) left (omega (arith, d)) (omega arith) (form_of-call2 at name a b is)
    (rw less (hx place (levels - 1) (node_count (term_of y) + left) (omega (arith, d))))
    (hy place (levels - 1) left (omega (arith, d))))

pub reads-Three : (at : ℕ) (name : List ℕ) (x y z : Expr) (a b c : Data) → slice_get names3 at ≡ Some name → ReadsAs x a → ReadsAs y b → ReadsAs z c →
    ReadsAs (Three at x y z) (call_data name (a ∷ b ∷ c ∷ []))
reads-Three at name x y z a b c is hx hy hz place levels left deep =
    let d : suc (max (depth (term_of x)) (max (depth (term_of y)) (depth (term_of z)))) ≤ levels = (rw term_of-Three at deep) in
    let less : suc (node_count (term_of x) + node_count (term_of y) + node_count (term_of z)) + left - 1
    ≡ node_count (term_of x) + (node_count (term_of y) + (node_count (term_of z) + left)) = omega arith in
    rw term_of-Three (three_at place levels (suc (node_count (term_of x) + node_count (term_of y) + node_count (term_of z)) + left)
    (call_data name (a ∷ b ∷ c ∷ [])) at a b c x y z (node_count (term_of y) + (node_count (term_of z) + left)) (node_count (term_of z) + left) left
    (omega (arith, d)) (omega arith) (form_of-call3 at name a b c is)
    (rw less (hx place (levels - 1) (node_count (term_of y) + (node_count (term_of z) + left)) (omega (arith, d))))
    (hy place (levels - 1) (node_count (term_of z) + left) (omega (arith, d)))
    (hz place (levels - 1) left (omega (arith, d))))
