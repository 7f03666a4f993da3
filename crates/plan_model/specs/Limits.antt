-- The limits of plans, and what a plan refers to.
use Rattle.std.specs.Prelude.{ℕ, suc, ◌+◌, Bool, ◌&&◌, true, max, nat_le, nat_lt, List, [], ◌∷◌, length, Option, Some, None}
use Rattle.std.specs.List.{list_all}
use Rattle.ratios.specs.Ratio.{is_below, zero_ratio}
use Rattle.plan_model.specs.declared.expr.Expr.{Expr}
use Rattle.plan_model.specs.declared.step.Item.{Item}
use Rattle.plan_model.specs.declared.step.Run.{Run}
use Rattle.plan_model.specs.declared.step.Step.{Step}
use Rattle.plan_model.specs.Pieces.{piece_count}
use Rattle.plan_model.specs.Sizes.{max_depth, max_items, max_nodes, max_pieces, max_steps, max_width}
use Rattle.plan_model.specs.Values.{Term, col, const, one, two, three, has_places, term_of}

-- ---- expressions

-- how deep an expression is; a column or a constant has depth 1
abbrev pub depth : Term → ℕ
depth (col c) = 1
depth (const a) = 1
depth (one p a) = suc (depth a)
depth (two p a b) = suc (max (depth a) (depth b))
depth (three p a b c) = suc (max (depth a) (max (depth b) (depth c)))

-- how many columns, constants and calls an expression has
abbrev pub node_count : Term → ℕ
node_count (col c) = 1
node_count (const a) = 1
node_count (one p a) = suc (node_count a)
node_count (two p a b) = suc (node_count a + node_count b)
node_count (three p a b c) = suc (node_count a + node_count b + node_count c)

-- at most 16 deep, at most 256 nodes, and every primitive at a place of its table
abbrev pub is_expr : Expr → Bool
is_expr e = nat_le (depth (term_of e)) max_depth && nat_le (node_count (term_of e)) max_nodes && has_places (term_of e)

abbrev pub are_exprs : List Expr → Bool
are_exprs es = list_all is_expr es

-- a guard may be absent
abbrev pub is_guard : Option Expr → Bool
is_guard None = true
is_guard (Some e) = is_expr e

-- ---- items and runs

-- the greatest weight of an item, and the greatest `over`
abbrev pub max_item_weight : ℕ
max_item_weight = 1048576

abbrev pub is_item : Item → Bool
is_item i = nat_le i.weight max_item_weight && is_guard i.guard && are_exprs i.row

-- at least one piece, of a weight above 0
abbrev pub is_run : Run → Bool
is_run r = is_below zero_ratio r.weight && nat_le 1 r.times

-- ---- steps

-- the step at a place: its inputs are earlier, and its parts are within the limits
abbrev pub is_step : ℕ → Step → Bool
is_step at (Step.Source name) = true
is_step at (Step.Filter of test) = nat_lt of at && is_expr test
is_step at (Step.Select of row) = nat_lt of at && are_exprs row
is_step at (Step.Many of over items) = nat_lt of at && nat_le 1 over && nat_le over max_item_weight && list_all is_item items
is_step at (Step.Shave of runs) = nat_lt of at && list_all is_run runs
is_step at (Step.Set kind left right) = nat_lt left at && nat_lt right at
is_step at (Step.Join left right left_key right_key) = nat_lt left at && nat_lt right at && are_exprs left_key && are_exprs right_key
is_step at (Step.Group of key reduce) = nat_lt of at && are_exprs key

-- the steps from a place on
abbrev pub are_steps : ℕ → List Step → Bool
are_steps at [] = true
are_steps at (s ∷ ss) = is_step at s && are_steps (at + 1) ss

-- ---- sizes

-- from 1 to so many
abbrev pub is_size : ℕ → ℕ → Bool
is_size most n = nat_le 1 n && nat_le n most

-- 1 to 16 expressions
abbrev pub has_width : List Expr → Bool
has_width es = is_size max_width (length es)

-- each list of the step is as long as it may be: 1 to 16 expressions, 1 to 64 items, and one run or more, with at
-- most 4,096 pieces
abbrev pub has_sizes : Step → Bool
has_sizes (Step.Source name) = true
has_sizes (Step.Filter of test) = true
has_sizes (Step.Select of row) = has_width row
has_sizes (Step.Many of over items) = is_size max_items (length items) && list_all (λ i. has_width i.row) items
has_sizes (Step.Shave of runs) = nat_le 1 (length runs) && nat_le (piece_count runs) max_pieces
has_sizes (Step.Set kind left right) = true
has_sizes (Step.Join left right left_key right_key) = has_width left_key && has_width right_key
has_sizes (Step.Group of key reduce) = has_width key

-- ---- plans

-- 1 to 64 steps, each as above at its place
abbrev pub is_plan : List Step → Bool
is_plan steps = is_size max_steps (length steps) && list_all has_sizes steps && are_steps 0 steps
