-- Items that are written read back.
use Rattle.std.proofs.Common.{◌≡◌, ℕ, zero, suc, ◌<◌, ◌≤◌, ◌&&◌, nat_le, true, List, [], ◌∷◌, length, Some, None, Ok, refl, sym, ap, arith, lt-ltb, le-leb}
use Rattle.std.specs.Prelude.{slice_get}
use Rattle.std.specs.List.{list_all}
use Rattle.std.proofs.lemmas.Bool.{and_parts}
use Rattle.serde_json.specs.Data.{Data, array}
use Rattle.serde_json.specs.View.{items_of}
use Rattle.json_fields.proofs.Members.{data_list-items_of}
use Rattle.json_fields.specs.Walk.{each}
use Rattle.plan_model.specs.declared.expr.Expr.{Expr}
use Rattle.plan_model.specs.declared.step.Item.{Item}
use Rattle.plan_model.specs.Limits.{is_expr, are_exprs, is_guard, is_item, max_item_weight}
use Rattle.plan_model.specs.Sizes.{max_items}
use Rattle.expr_text.specs.declared.fault.Place.{Place}
use Rattle.expr_text.specs.Written.{ReadsAs, ListReadsAs}
use Rattle.expr_text.proofs.ListsReadBack.{reads-expr_in}
use Rattle.expr_text.proofs.Walks.{length-each}
use Rattle.plan_reader.specs.Items.{item_of, item_in, item_at, items_in}
use Rattle.plan_reader.specs.Written.{ItemReadsAs, ItemsReadAs, item_data, guarded_item_data}

-- the parts of what an item is: its weight, its guard and its row
pub item_parts : (i : Item) → is_item i ≡ true → (nat_le i.weight max_item_weight ≡ true) × (is_guard i.guard ≡ true) × (are_exprs i.row ≡ true)
item_parts i h =
    let all = and_parts (nat_le i.weight max_item_weight && is_guard i.guard) (are_exprs i.row) h in
    let first = and_parts (nat_le i.weight max_item_weight) (is_guard i.guard) all.0 in
    (first.0, first.1, all.1)

-- the expression of a guard is within the limits
pub is_expr-guard : (i : Item) (test : Expr) → is_item i ≡ true → i.guard ≡ Some test → is_expr test ≡ true
is_expr-guard i test h is = (rw is at (item_parts i h).1)

reads-no_guard : (w : ℕ) (es : List Expr) (row : Data) → nat_le w max_item_weight ≡ true → ListReadsAs es row →
    ItemReadsAs (item_of w None es) (item_data w row)
unfolding item_in
reads-no_guard w es row small reads p = rw (le-leb 0 w (omega arith), small, reads p) refl

reads-guard : (w : ℕ) (test : Expr) (es : List Expr) (d row : Data) → nat_le w max_item_weight ≡ true → is_expr test ≡ true → ReadsAs test d → ListReadsAs es row →
    ItemReadsAs (item_of w (Some test) es) (guarded_item_data w d row)
unfolding item_in
reads-guard w test es d row small placed tests reads p = rw (le-leb 0 w (omega arith), small, reads-expr_in p test d placed tests, reads p) refl

pub reads-item : (i : Item) (row : Data) → is_item i ≡ true → i.guard ≡ None → ListReadsAs i.row row → ItemReadsAs i (item_data i.weight row)
reads-item i row h none reads =
    let whole : item_of i.weight None i.row ≡ i = ap (λ g. item_of i.weight g i.row) (sym none) in
    rw (← whole) (reads-no_guard i.weight i.row row (item_parts i h).0 reads)

pub reads-guarded_item : (i : Item) (test : Expr) (d row : Data) → is_item i ≡ true → i.guard ≡ Some test → ReadsAs test d → ListReadsAs i.row row →
    ItemReadsAs i (guarded_item_data i.weight d row)
reads-guarded_item i test d row h is tests reads =
    let whole : item_of i.weight (Some test) i.row ≡ i = ap (λ g. item_of i.weight g i.row) (sym is) in
    rw (← whole) (reads-guard i.weight test i.row d row (item_parts i h).0 (is_expr-guard i test h is) tests reads)

-- ---- lists

pub is_item-at : (is : List Item) (n : ℕ) (i : Item) → list_all is_item is ≡ true → slice_get is n ≡ Some i → is_item i ≡ true
is_item-at [] n i all found = cc
is_item-at (x ∷ is) zero i all found =
    let same : x ≡ i = cc in rw (← same) (and_parts (is_item x) (list_all is_item is) all).0
is_item-at (x ∷ is) (suc n) i all found = is_item-at is n i (and_parts (is_item x) (list_all is_item is) all).1 found

-- 1 to 64 values, each of which is walked as an item
pub reads-items : (is : List Item) (ds : List Data) → 0 < length is → length is ≤ max_items → ((p : Place) → each (item_at p) 0 ds ≡ Ok is) →
    ItemsReadAs is (array (items_of ds))
unfolding items_in
reads-items is ds some few read p =
    let len : length is ≡ length ds = length-each (item_at p) 0 ds is (read p) in
    rw (data_list-items_of ds, lt-ltb 0 (length ds) (omega arith), le-leb (length ds) max_items (omega arith), read p) refl
