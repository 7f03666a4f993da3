-- Lists of expressions that are written read back.
use Rattle.std.proofs.Common.{◌≡◌, ℕ, zero, suc, ◌+◌, ◌-◌, ◌<◌, ◌≤◌, ◌&&◌, nat_le, true, List, [], ◌∷◌, length, Some, Ok, refl, arith, lt-ltb, le-leb}
use Rattle.std.specs.Prelude.{slice_get}
use Rattle.std.proofs.lemmas.Bool.{and_parts, leb-true}
use Rattle.serde_json.specs.Data.{Data, array}
use Rattle.serde_json.specs.View.{items_of}
use Rattle.json_fields.proofs.Members.{data_list-items_of}
use Rattle.json_fields.specs.Walk.{each}
use Rattle.plan_model.specs.declared.expr.Expr.{Expr}
use Rattle.plan_model.specs.Limits.{depth, node_count, is_expr, are_exprs}
use Rattle.plan_model.specs.Sizes.{max_depth, max_nodes, max_width}
use Rattle.plan_model.specs.Values.{term_of, has_places}
use Rattle.expr_text.specs.declared.fault.Place.{Place}
use Rattle.expr_text.specs.Exprs.{expr_in, member_in}
use Rattle.expr_text.specs.Written.{ReadsAs, ListReadsAs}
use Rattle.expr_text.proofs.Walks.{length-each}

pub has_places-is_expr : (e : Expr) → is_expr e ≡ true → has_places (term_of e) ≡ true
has_places-is_expr e h = (and_parts (nat_le (depth (term_of e)) max_depth && nat_le (node_count (term_of e)) max_nodes) (has_places (term_of e)) h).1

pub reads-expr_in : (place : Place) (e : Expr) (d : Data) → is_expr e ≡ true → ReadsAs e d → expr_in place d ≡ Ok e
reads-expr_in place e d h reads =
    let parts = and_parts (nat_le (depth (term_of e)) max_depth && nat_le (node_count (term_of e)) max_nodes) (has_places (term_of e)) h in
    let limits = and_parts (nat_le (depth (term_of e)) max_depth) (nat_le (node_count (term_of e)) max_nodes) parts.0 in
    let few : node_count (term_of e) ≤ max_nodes = leb-true (node_count (term_of e)) max_nodes limits.1 in
    let full : node_count (term_of e) + (max_nodes - node_count (term_of e)) ≡ max_nodes = omega arith in
    let walked = (rw full at (reads place max_depth (max_nodes - node_count (term_of e)) (leb-true (depth (term_of e)) max_depth limits.0))) in
    rw walked refl

pub is_expr-at : (es : List Expr) (i : ℕ) (e : Expr) → are_exprs es ≡ true → slice_get es i ≡ Some e → is_expr e ≡ true
is_expr-at [] i e all is = cc
is_expr-at (x ∷ es) zero e all is =
    let same : x ≡ e = cc in rw (← same) (and_parts (is_expr x) (are_exprs es) all).0
is_expr-at (x ∷ es) (suc i) e all is = is_expr-at es i e (and_parts (is_expr x) (are_exprs es) all).1 is

-- 1 to 16 values, each of which is walked as an expression
pub reads-list : (es : List Expr) (ds : List Data) → 0 < length es → length es ≤ max_width → ((place : Place) → each (member_in place) 0 ds ≡ Ok es) →
    ListReadsAs es (array (items_of ds))
reads-list es ds some few read place =
    let len : length es ≡ length ds = length-each (member_in place) 0 ds es (read place) in
    rw (data_list-items_of ds, lt-ltb 0 (length ds) (omega arith), le-leb (length ds) max_width (omega arith), read place) refl
