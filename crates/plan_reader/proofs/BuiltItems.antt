-- The items that the walk gives are within the limits of plans.
use Rattle.std.proofs.Common.{◌≡◌, ℕ, ◌+◌, nat_le, codes, List, [], ◌∷◌, length, true, Option, Some, None, Ok, refl, sym, ap, ◌∙◌}
use Rattle.std.specs.List.{list_all}
use Rattle.std.proofs.lemmas.Bool.{and_from}
use Rattle.serde_json.specs.Data.{Data}
use Rattle.serde_json.specs.Find.{get, as_object}
use Rattle.json_fields.specs.Walk.{each}
use Rattle.plan_model.specs.declared.expr.Expr.{Expr}
use Rattle.plan_model.specs.declared.step.Item.{Item}
use Rattle.plan_model.specs.Limits.{has_width, is_guard, is_item, is_size, max_item_weight}
use Rattle.plan_model.specs.Sizes.{max_items}
use Rattle.expr_text.specs.declared.fault.Limit.TheVariants as limit
use Rattle.expr_text.specs.declared.fault.Place.{Place}
use Rattle.expr_text.specs.declared.fault.PlanText.TheVariants as fault
use Rattle.expr_text.specs.Exprs.{expr_in, exprs_in}
use Rattle.expr_text.specs.Fields.{or_shape, list_in}
use Rattle.expr_text.proofs.Walks.{cond_ok, is_size-each, length-each, some-list_in}
use Rattle.expr_text.proofs.WithinLimits.{is_expr-expr_in, are_exprs-exprs_in, has_width-exprs_in}
use Rattle.plan_reader.specs.Fields.{only, whole_in}
use Rattle.plan_reader.specs.Items.{guard_in, item_fields, item_of, item_in, item_at, few_items, items_in}
use Rattle.plan_reader.proofs.Numbers.{whole_in-bounds}
use Rattle.json_fields.proofs.Walks.{both_steps}

is_guard-guard_in : (p : Place) (found : Option Data) (g : Option Expr) → guard_in p found ≡ Ok g → is_guard g ≡ true
is_guard-guard_in p None g e = let same : None ≡ g = cc in rw (← same) refl
is_guard-guard_in p (Some d) g e =
    let test = both_steps (expr_in p d) _ g e in
    let same : Some test.0 ≡ g = (let last = test.2 in cc) in
    rw (← same) (is_expr-expr_in p d test.0 test.1)

-- the item is within the limits, and its row has 1 to 16 expressions
limits-item_in : (p : Place) (d : Data) (i : Item) → item_in p d ≡ Ok i → (is_item i ≡ true) × (has_width i.row ≡ true)
unfolding item_in
limits-item_in p d i e =
    let members = both_steps (or_shape p (as_object d)) _ i e in
    let w = both_steps (whole_in p (codes "weight") 0 max_item_weight d) _ i members.2 in
    let test = both_steps (guard_in p (get (codes "if") d)) _ i w.2 in
    let row = both_steps (exprs_in p (get (codes "row") d)) _ i test.2 in
    let known = both_steps (only p item_fields members.0) _ i row.2 in
    let same : item_of w.0 test.0 row.0 ≡ i = (let last = known.2 in cc) in
    rw (← same) (
      rw (
        (whole_in-bounds p (codes "weight") 0 max_item_weight d w.0 w.1).1,
        is_guard-guard_in p (get (codes "if") d) test.0 test.1,
        are_exprs-exprs_in p (get (codes "row") d) row.0 row.1,
      ) refl,
      has_width-exprs_in p (get (codes "row") d) row.0 row.1,
    )

limits-each : (p : Place) (n : ℕ) (ds : List Data) (is : List Item) → each (item_at p) n ds ≡ Ok is →
    (list_all is_item is ≡ true) × (list_all (λ i. has_width i.row) is ≡ true)
limits-each p n [] is e = let none : [] ≡ is = cc in rw (← none) (refl, refl)
limits-each p n (d ∷ ds) is e =
    let first = both_steps (item_at p n d) _ is e in
    let rest = both_steps (each (item_at p) (n + 1) ds) _ is first.2 in
    let same : first.0 ∷ rest.0 ≡ is = (let last = rest.2 in cc) in
    let one = limits-item_in p d first.0 first.1 in
    let others = limits-each p (n + 1) ds rest.0 rest.1 in
    rw (← same) (and_from (is_item first.0) _ one.0 others.0, and_from (has_width first.0.row) _ one.1 others.1)

-- there are 1 to 64 items, each within the limits
pub record AreGoodItems (is : List Item) : Type 0 where
  pub limits : list_all is_item is ≡ true
  pub count : is_size max_items (length is) ≡ true
  pub widths : list_all (λ i. has_width i.row) is ≡ true

pub good-items_in : (p : Place) (found : Option Data) (is : List Item) → items_in p found ≡ Ok is → AreGoodItems is
unfolding items_in
good-items_in p found is e =
    let list = both_steps (list_in p found) _ is e in
    let members = both_steps (few_items p list.0) _ is list.2 in
    let short = cond_ok (nat_le (length list.0) max_items) list.0 members.0 (fault.Over p.step limit.Items) members.1 in
    let one_each : length is ≡ length list.0 = length-each (item_at p) 0 members.0 is members.2 ∙ ap length (sym short.1) in
    let each = limits-each p 0 members.0 is members.2 in
    record {
      limits = each.0;
      count = is_size-each max_items list.0 is one_each (some-list_in p found list.0 list.1) short.0;
      widths = each.1;
    }
