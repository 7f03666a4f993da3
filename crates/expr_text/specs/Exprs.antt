-- The expression that a value denotes, or the first fault of its walk.
use Rattle.std.specs.Prelude.{ℕ, zero, suc, ◌-◌, ◌==◌, nat_le, List, length, if◌then◌else◌, Option, Some, None, Result, Ok}
use Rattle.serde_json.specs.Data.{Data}
use Rattle.json_fields.specs.Walk.{◌>>=◌, each}
use Rattle.plan_model.specs.declared.expr.Expr.{Expr}
use Rattle.plan_model.specs.declared.expr.Expr.TheVariants.{Col, Const, One, Two, Three}
use Rattle.plan_model.specs.Sizes.{max_depth, max_nodes, max_width}
use Rattle.expr_text.specs.declared.fault.Limit.TheVariants as limit
use Rattle.expr_text.specs.declared.fault.Place.{Place}
use Rattle.expr_text.specs.declared.fault.PlanText.{PlanText}
use Rattle.expr_text.specs.Gives.{shape, over}
use Rattle.expr_text.specs.Fields.{list_in}
use Rattle.expr_text.specs.Forms.{Node, col_node, const_node, one_node, two_node, three_node, form_of}

-- the expression of a node and the nodes that are left, where `below` walks an argument with the nodes that
-- are left before it
abbrev pub node_expr : Place → (ℕ → Data → Result (Expr × ℕ) PlanText) → ℕ → Option Node → Result (Expr × ℕ) PlanText
node_expr place below left None = shape place
node_expr place below left (Some (col_node c)) = Ok (Col c, left)
node_expr place below left (Some (const_node atom)) = Ok (Const atom, left)
node_expr place below left (Some (one_node at a)) = do
  x ← below left a
  Ok (One at x.0, x.1)
node_expr place below left (Some (two_node at a b)) = do
  x ← below left a
  y ← below x.1 b
  Ok (Two at x.0 y.0, y.1)
node_expr place below left (Some (three_node at a b c)) = do
  x ← below left a
  y ← below x.1 b
  z ← below y.1 c
  Ok (Three at x.0 y.0 z.0, z.1)

-- an expression at most so many levels deep and of at most so many nodes, and the nodes that are left
unfoldable pub expr_at : Place → ℕ → ℕ → Data → Result (Expr × ℕ) PlanText
expr_at place zero nodes d = over place.step limit.Depth
expr_at place (suc levels) nodes d =
    if nodes == 0 then over place.step limit.Nodes
    else node_expr place (expr_at place levels) (nodes - 1) (form_of d)

-- an expression at most 16 deep and of at most 256 nodes
abbrev pub expr_in : Place → Data → Result Expr PlanText
expr_in place d = do
  x ← expr_at place max_depth max_nodes d
  Ok x.0

-- ---- lists

-- at most 16
abbrev pub few : Place → List Data → Result (List Data) PlanText
few place ds = if nat_le (length ds) max_width then Ok ds else over place.step limit.Width

-- an expression of a list, which is told its place
abbrev pub member_in : Place → ℕ → Data → Result Expr PlanText
member_in place i d = expr_in place d

-- 1 to 16 expressions
abbrev pub exprs_in : Place → Option Data → Result (List Expr) PlanText
exprs_in place found = do
  ds ← list_in place found
  members ← few place ds
  each (member_in place) 0 members
