-- The items of steps that are those of a plan.
use Rattle.std.specs.Prelude.{◌≡◌, ℕ, true, List, ◌++◌, length, slice_get, Some, option_to_list}
use Rattle.std.specs.List.{list_all}
use Rattle.std.proofs.Common.{sym, ◌∙◌}
use Rattle.std.proofs.lemmas.Bool.{and_parts}
use Rattle.std.proofs.lemmas.List.Folds.{list_all-append}
use Rattle.record_text.specs.declared.kinds.Kind.{Kind}
use Rattle.plan_model.specs.declared.expr.Expr.{Expr}
use Rattle.plan_model.specs.declared.step.Item.{Item}
use Rattle.plan_model.specs.Acceptance.{have_columns, item_exprs}
use Rattle.plan_model.specs.Limits.{are_exprs, is_guard, is_item}
use Rattle.plan_model.specs.Values.{has_columns, term_of}
use Rattle.record_text.proofs.Lists.{passes_at}
use Rattle.plan_checker.proofs.Members.{list_all-flat_map}
pub use Rattle.plan_model.proofs.Plans.{some_steps, step_of_plan}

-- ---- items

pub exprs-item : (items : List Item) (k : ℕ) (item : Item) → slice_get items k ≡ Some item → list_all is_item items ≡ true → are_exprs item.row ≡ true
exprs-item items k item at all = (and_parts _ (are_exprs item.row) (passes_at is_item items k item at all)).1

pub guard-item : (items : List Item) (k : ℕ) (item : Item) → slice_get items k ≡ Some item → list_all is_item items ≡ true → is_guard item.guard ≡ true
guard-item items k item at all =
    let parts = (and_parts _ (are_exprs item.row) (passes_at is_item items k item at all)).0 in
    (and_parts _ (is_guard item.guard) parts).1

module _ (cols : List Kind) (items : List Item) (k : ℕ) (item : Item) (at : slice_get items k ≡ Some item) (all : have_columns cols (item_exprs items) ≡ true) where
  within-item : (have_columns cols (option_to_list item.guard) ≡ true) × (have_columns cols item.row ≡ true)
  within-item =
      let p = λ (e : Expr). has_columns (length cols) (term_of e) in
      let each = λ (i : Item). option_to_list i.guard ++ i.row in
      let here = passes_at (λ i. list_all p (each i)) items k item at (sym (list_all-flat_map p each items) ∙ all) in
      and_parts _ _ (sym (list_all-append p (option_to_list item.guard) item.row) ∙ here)

  -- a guard and a row read no column past the width
  pub guard_within : have_columns cols (option_to_list item.guard) ≡ true
  guard_within = within-item.0

  pub row_within : have_columns cols item.row ≡ true
  row_within = within-item.1
