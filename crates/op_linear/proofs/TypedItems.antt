-- What holds of each of some items, from what holds of all.
use Rattle.std.specs.Prelude.{◌≡◌, ◌≤◌, ℕ, zero, suc, true, ◌&&◌, List, [], ◌∷◌, option_to_list, slice_get, Some, refl}
use Rattle.std.specs.List.{list_all}
use Rattle.std.proofs.Common.{sym, subst, ◌∙◌, true≢false}
use Rattle.std.proofs.lemmas.Bool.{and_parts, leb-true}
use Rattle.std.proofs.lemmas.List.Folds.{list_all-append}
use Rattle.record_text.proofs.Lists.{passes_at}
use Rattle.record_text.specs.KindLists.{kind_eq, kinds_eq}
use Rattle.record_text.specs.declared.kinds.Kind.{Kind}
use Rattle.record_text.specs.declared.kinds.Kind.TheVariants.{Int, Text}
use Rattle.plan_model.specs.Acceptance.{are_ints, guards, have_kinds}
use Rattle.plan_model.specs.Limits.{is_item, max_item_weight}
use Rattle.plan_model.specs.Types.{first_row, kind_over, kinds_over}
use Rattle.plan_model.specs.Values.{is_typed, term_of}
use Rattle.plan_model.specs.declared.expr.Expr.{Expr}
use Rattle.plan_model.specs.declared.step.Item.{Item}
use Rattle.op_linear.specs.Many.{items_have_kinds}

-- ---- a guard

is_int_kind : (kind : Kind) → kind_eq Int kind ≡ true → kind ≡ Int
is_int_kind Int e = refl
is_int_kind Text e = absurd (true≢false (sym e))

-- an Int has a kind, which is Int
pub typed_guard : (cols : List Kind) (test : Expr) → are_ints cols (test ∷ []) ≡ true → (is_typed cols (term_of test) ≡ true) × (kind_over cols test ≡ Int)
typed_guard cols test h =
    let p = and_parts (is_typed cols (term_of test)) _ (and_parts (is_typed cols (term_of test) && kind_eq Int (kind_over cols test)) _ h).0 in
    (p.0, is_int_kind (kind_over cols test) p.1)

-- ---- the item at a place

guard_among : (cols : List Kind) (items : List Item) (i : ℕ) (item : Item) → slice_get items i ≡ Some item → are_ints cols (guards items) ≡ true → are_ints cols (option_to_list item.guard) ≡ true
guard_among cols [] i item at h = cc
guard_among cols (j ∷ items) zero item at h =
    let same : j ≡ item = cc in
    let p = and_parts (are_ints cols (option_to_list j.guard)) _ (sym (list_all-append (λ e. is_typed cols (term_of e) && kind_eq Int (kind_over cols e)) (option_to_list j.guard) (guards items)) ∙ h) in
    subst (λ k. are_ints cols (option_to_list k.guard) ≡ true) same p.0
guard_among cols (j ∷ items) (suc i) item at h =
    let p = and_parts (are_ints cols (option_to_list j.guard)) _ (sym (list_all-append (λ e. is_typed cols (term_of e) && kind_eq Int (kind_over cols e)) (option_to_list j.guard) (guards items)) ∙ h) in
    guard_among cols items i item at p.1

module _ (cols : List Kind) (items : List Item) (i : ℕ) (item : Item) (at : slice_get items i ≡ Some item) where
  pub guard_at : items_have_kinds cols items ≡ true → are_ints cols (option_to_list item.guard) ≡ true
  guard_at typed = guard_among cols items i item at (and_parts (are_ints cols (guards items)) _ typed).0

  pub row_at : items_have_kinds cols items ≡ true → have_kinds cols item.row ≡ true
  row_at typed =
      (and_parts (have_kinds cols item.row) _
      (passes_at (λ i. have_kinds cols i.row && kinds_eq (kinds_over cols (first_row items)) (kinds_over cols i.row)) items i item at (and_parts (are_ints cols (guards items)) _ typed).1)).0

  pub weight_at : list_all is_item items ≡ true → item.weight ≤ max_item_weight
  weight_at limits =
      let p = and_parts _ _ (passes_at is_item items i item at limits) in
      leb-true item.weight max_item_weight (and_parts _ _ p.0).0
