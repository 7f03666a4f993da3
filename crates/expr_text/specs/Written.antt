-- The values that expressions are written as, and what it is that a value reads as.
use Rattle.std.specs.Prelude.{◌≡◌, ℕ, ◌+◌, ◌≤◌, codes, List, Some, Ok}
use Rattle.serde_json.specs.Data.{Data, unsigned, number, string, array, object, no_members, member}
use Rattle.serde_json.specs.View.{items_of}
use Rattle.serde_json.specs.Find.{of_integer}
use Rattle.record_text.specs.declared.atom.Atom.{Atom}
use Rattle.record_text.specs.declared.atom.Atom.TheVariants.{Int, Text}
use Rattle.plan_model.specs.declared.expr.Expr.{Expr}
use Rattle.plan_model.specs.Limits.{depth, node_count}
use Rattle.plan_model.specs.Values.{term_of}
use Rattle.expr_text.specs.declared.fault.Place.{Place}
use Rattle.expr_text.specs.Exprs.{expr_at, exprs_in}

-- ---- values

-- `{"col":c}`
abbrev pub col_data : ℕ → Data
col_data c = object (member (codes "col") (number (unsigned c)) no_members)

-- `{"int":i}`, `{"text":t}`
abbrev pub const_data : Atom → Data
const_data (Int i) = object (member (codes "int") (number (of_integer i)) no_members)
const_data (Text text) = object (member (codes "text") (string text) no_members)

-- `{"args":[..],"call":name}`
abbrev pub call_data : List ℕ → List Data → Data
call_data name args = object (member (codes "args") (array (items_of args)) (member (codes "call") (string name) no_members))

-- ---- reading back

-- with levels and nodes enough, the walk over the value gives the expression and leaves the other nodes
abbrev pub ReadsAs : Expr → Data → Type 0
ReadsAs e d = (place : Place) (levels left : ℕ) → depth (term_of e) ≤ levels → expr_at place levels (node_count (term_of e) + left) d ≡ Ok (e, left)

-- the walk over the list gives these expressions
abbrev pub ListReadsAs : List Expr → Data → Type 0
ListReadsAs es d = (place : Place) → exprs_in place (Some d) ≡ Ok es
