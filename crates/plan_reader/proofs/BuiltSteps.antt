-- The steps that the walk gives are within the limits of plans.
use Rattle.std.proofs.Common.{◌≡◌, ℕ, ◌+◌, ◌<◌, ◌≤◌, ◌&&◌, nat_lt, codes, List, [], ◌∷◌, length, true, Ok, refl, IsTrue}
use Rattle.std.specs.List.{list_all}
use Rattle.std.proofs.lemmas.Bool.{and_from, le-leb}
use Rattle.serde_json.specs.Data.{Data, Members}
use Rattle.serde_json.specs.Find.{get, as_object}
use Rattle.json_fields.specs.Walk.{each}
use Rattle.plan_model.specs.declared.step.SetKind.{SetKind}
use Rattle.plan_model.specs.declared.step.Step.{Step}
use Rattle.plan_model.specs.declared.step.Step.TheVariants as step
use Rattle.plan_model.specs.Limits.{has_sizes, has_width, is_size, is_step, are_steps, is_plan, max_item_weight}
use Rattle.plan_model.specs.Sizes.{max_items, max_steps}
use Rattle.expr_text.specs.declared.fault.Field.TheVariants as field
use Rattle.expr_text.specs.Exprs.{expr_in, exprs_in}
use Rattle.expr_text.specs.Fields.{place, or_shape}
use Rattle.expr_text.proofs.Walks.{is_size-each, length-each}
use Rattle.expr_text.proofs.WithinLimits.{is_expr-expr_in, are_exprs-exprs_in, has_width-exprs_in}
use Rattle.plan_reader.specs.declared.step.StepKind.{StepKind}
use Rattle.plan_reader.specs.declared.step.StepKind.TheVariants as kind
use Rattle.plan_reader.specs.Fields.{no_other, name_in}
use Rattle.plan_reader.specs.Items.{items_in}
use Rattle.plan_reader.specs.Runs.{runs_in}
use Rattle.plan_reader.specs.Steps.{kind_of, step_fields, of_in, left_in, right_in, over_in, source_in, where_in, select_in, many_in, shave_in, set_in, join_in, group_in, left_key_in, right_key_in, key_in, fields_in, step_at}
use Rattle.plan_reader.specs.Reducers.{reducer_in}
use Rattle.json_fields.proofs.Walks.{both_steps}
use Rattle.plan_reader.proofs.BuiltItems.{good-items_in}
use Rattle.plan_reader.proofs.BuiltRuns.{good-runs_in}
use Rattle.plan_reader.proofs.Numbers.{earlier_in-below, whole_in-bounds}

-- ---- one step

-- within the limits of a step at this place, with lists as long as they may be
pub record IsGood (at : ℕ) (s : Step) : Type 0 where
  pub limits : is_step at s ≡ true
  pub sizes : has_sizes s ≡ true

of_in-below : (at : ℕ) (d : Data) (k : ℕ) → of_in at d ≡ Ok k → nat_lt k at ≡ true
unfolding of_in
of_in-below at d k e = earlier_in-below (place at field.Of) (codes "of") d k e

good-source_in : (at : ℕ) (d : Data) (ms : Members) (s : Step) → source_in at d ms ≡ Ok s → IsGood at s
unfolding source_in
good-source_in at d ms s e =
    let name = both_steps (name_in at d) _ s e in
    let known = both_steps (no_other at (step_fields kind.Source) ms) _ s name.2 in
    let same : step.Source name.0 ≡ s = (let last = known.2 in cc) in
    rw (← same) (record { limits = refl; sizes = refl })

good-where_in : (at : ℕ) (d : Data) (ms : Members) (s : Step) → where_in at d ms ≡ Ok s → IsGood at s
unfolding where_in
good-where_in at d ms s e =
    let from = both_steps (of_in at d) _ s e in
    let found = both_steps (or_shape (place at field.If) (get (codes "if") d)) _ s from.2 in
    let test = both_steps (expr_in (place at field.If) found.0) _ s found.2 in
    let known = both_steps (no_other at (step_fields kind.Where) ms) _ s test.2 in
    let same : step.Filter from.0 test.0 ≡ s = (let last = known.2 in cc) in
    rw (← same) (record {
      limits = rw (of_in-below at d from.0 from.1, is_expr-expr_in (place at field.If) found.0 test.0 test.1) refl;
      sizes = refl;
    })

good-select_in : (at : ℕ) (d : Data) (ms : Members) (s : Step) → select_in at d ms ≡ Ok s → IsGood at s
unfolding select_in
good-select_in at d ms s e =
    let from = both_steps (of_in at d) _ s e in
    let row = both_steps (exprs_in (place at field.Row) (get (codes "row") d)) _ s from.2 in
    let known = both_steps (no_other at (step_fields kind.Select) ms) _ s row.2 in
    let same : step.Select from.0 row.0 ≡ s = (let last = known.2 in cc) in
    rw (← same) (record {
      limits = rw (of_in-below at d from.0 from.1, are_exprs-exprs_in (place at field.Row) (get (codes "row") d) row.0 row.1) refl;
      sizes = has_width-exprs_in (place at field.Row) (get (codes "row") d) row.0 row.1;
    })

good-many_in : (at : ℕ) (d : Data) (ms : Members) (s : Step) → many_in at d ms ≡ Ok s → IsGood at s
unfolding many_in over_in
good-many_in at d ms s e =
    let from = both_steps (of_in at d) _ s e in
    let spread = both_steps (over_in at d) _ s from.2 in
    let items = both_steps (items_in (place at field.Items) (get (codes "items") d)) _ s spread.2 in
    let known = both_steps (no_other at (step_fields kind.Many) ms) _ s items.2 in
    let same : step.Many from.0 spread.0 items.0 ≡ s = (let last = known.2 in cc) in
    let bounds = whole_in-bounds (place at field.Over) (codes "over") 1 max_item_weight d spread.0 spread.1 in
    let good = good-items_in (place at field.Items) (get (codes "items") d) items.0 items.1 in
    rw (← same) (record {
      limits = rw (of_in-below at d from.0 from.1, bounds.0, bounds.1, good.limits) refl;
      sizes = and_from (is_size max_items (length items.0)) _ good.count good.widths;
    })

good-shave_in : (at : ℕ) (d : Data) (ms : Members) (s : Step) → shave_in at d ms ≡ Ok s → IsGood at s
unfolding shave_in
good-shave_in at d ms s e =
    let from = both_steps (of_in at d) _ s e in
    let runs = both_steps (runs_in (place at field.Runs) (get (codes "runs") d)) _ s from.2 in
    let known = both_steps (no_other at (step_fields kind.Shave) ms) _ s runs.2 in
    let same : step.Shave from.0 runs.0 ≡ s = (let last = known.2 in cc) in
    let good = good-runs_in (place at field.Runs) (get (codes "runs") d) runs.0 runs.1 in
    rw (← same) (record {
      limits = rw (of_in-below at d from.0 from.1, good.limits) refl;
      sizes = good.sizes;
    })

good-set_in : (which : SetKind) (at : ℕ) (d : Data) (ms : Members) (s : Step) → set_in which at d ms ≡ Ok s → IsGood at s
unfolding set_in left_in right_in
good-set_in which at d ms s e =
    let left = both_steps (left_in at d) _ s e in
    let right = both_steps (right_in at d) _ s left.2 in
    let known = both_steps (no_other at (step_fields (kind.Set which)) ms) _ s right.2 in
    let same : step.Set which left.0 right.0 ≡ s = (let last = known.2 in cc) in
    rw (← same) (record {
      limits = rw (
        earlier_in-below (place at field.Left) (codes "left") d left.0 left.1,
        earlier_in-below (place at field.Right) (codes "right") d right.0 right.1,
      ) refl;
      sizes = refl;
    })

good-join_in : (at : ℕ) (d : Data) (ms : Members) (s : Step) → join_in at d ms ≡ Ok s → IsGood at s
unfolding join_in left_in right_in left_key_in right_key_in
good-join_in at d ms s e =
    let left = both_steps (left_in at d) _ s e in
    let right = both_steps (right_in at d) _ s left.2 in
    let left_key = both_steps (left_key_in at d) _ s right.2 in
    let right_key = both_steps (right_key_in at d) _ s left_key.2 in
    let known = both_steps (no_other at (step_fields kind.Join) ms) _ s right_key.2 in
    let same : step.Join left.0 right.0 left_key.0 right_key.0 ≡ s = (let last = known.2 in cc) in
    rw (← same) (record {
      limits = rw (
        earlier_in-below (place at field.Left) (codes "left") d left.0 left.1,
        earlier_in-below (place at field.Right) (codes "right") d right.0 right.1,
        are_exprs-exprs_in (place at field.LeftKey) (get (codes "left_key") d) left_key.0 left_key.1,
        are_exprs-exprs_in (place at field.RightKey) (get (codes "right_key") d) right_key.0 right_key.1,
      ) refl;
      sizes = and_from (has_width left_key.0) _
          (has_width-exprs_in (place at field.LeftKey) (get (codes "left_key") d) left_key.0 left_key.1)
          (has_width-exprs_in (place at field.RightKey) (get (codes "right_key") d) right_key.0 right_key.1);
    })

good-group_in : (at : ℕ) (d : Data) (ms : Members) (s : Step) → group_in at d ms ≡ Ok s → IsGood at s
unfolding group_in key_in
good-group_in at d ms s e =
    let from = both_steps (of_in at d) _ s e in
    let key = both_steps (key_in at d) _ s from.2 in
    let reduce = both_steps (reducer_in (place at field.Reduce) (get (codes "reduce") d)) _ s key.2 in
    let known = both_steps (no_other at (step_fields kind.Group) ms) _ s reduce.2 in
    let same : step.Group from.0 key.0 reduce.0 ≡ s = (let last = known.2 in cc) in
    rw (← same) (record {
      limits = rw (of_in-below at d from.0 from.1, are_exprs-exprs_in (place at field.Key) (get (codes "key") d) key.0 key.1) refl;
      sizes = has_width-exprs_in (place at field.Key) (get (codes "key") d) key.0 key.1;
    })

good-fields_in : (at : ℕ) (d : Data) (ms : Members) (k : StepKind) (s : Step) → fields_in at d ms k ≡ Ok s → IsGood at s
good-fields_in at d ms kind.Source s e = good-source_in at d ms s e
good-fields_in at d ms kind.Where s e = good-where_in at d ms s e
good-fields_in at d ms kind.Select s e = good-select_in at d ms s e
good-fields_in at d ms kind.Many s e = good-many_in at d ms s e
good-fields_in at d ms kind.Shave s e = good-shave_in at d ms s e
good-fields_in at d ms (kind.Set which) s e = good-set_in which at d ms s e
good-fields_in at d ms kind.Join s e = good-join_in at d ms s e
good-fields_in at d ms kind.Group s e = good-group_in at d ms s e

good-step_at : (at : ℕ) (d : Data) (s : Step) → step_at at d ≡ Ok s → IsGood at s
unfolding step_at
good-step_at at d s e =
    let members = both_steps (or_shape (place at field.Step) (as_object d)) _ s e in
    let k = both_steps (or_shape (place at field.Do) (kind_of d)) _ s members.2 in
    good-fields_in at d members.0 k.0 s k.2

-- ---- all steps

pub are_steps-each : (at : ℕ) (ds : List Data) (ss : List Step) → each step_at at ds ≡ Ok ss → are_steps at ss ≡ true
are_steps-each at [] ss e = let none : [] ≡ ss = cc in rw (← none) refl
are_steps-each at (d ∷ ds) ss e =
    let first = both_steps (step_at at d) _ ss e in
    let rest = both_steps (each step_at (at + 1) ds) _ ss first.2 in
    let is : first.0 ∷ rest.0 ≡ ss = (let last = rest.2 in cc) in
    rw (← is, (good-step_at at d first.0 first.1).limits, are_steps-each (at + 1) ds rest.0 rest.1) refl

have_sizes-each : (at : ℕ) (ds : List Data) (ss : List Step) → each step_at at ds ≡ Ok ss → list_all has_sizes ss ≡ true
have_sizes-each at [] ss e = let none : [] ≡ ss = cc in rw (← none) refl
have_sizes-each at (d ∷ ds) ss e =
    let first = both_steps (step_at at d) _ ss e in
    let rest = both_steps (each step_at (at + 1) ds) _ ss first.2 in
    let is : first.0 ∷ rest.0 ≡ ss = (let last = rest.2 in cc) in
    rw (← is) (and_from (has_sizes first.0) _ (good-step_at at d first.0 first.1).sizes (have_sizes-each (at + 1) ds rest.0 rest.1))

-- 1 to 64 values that are walked as steps give a plan
pub is_plan-each : (ds : List Data) (ss : List Step) → 0 < length ds → length ds ≤ max_steps → each step_at 0 ds ≡ Ok ss → IsTrue (is_plan ss)
is_plan-each ds ss some most e =
    let count = is_size-each max_steps ds ss (length-each step_at 0 ds ss e) some (le-leb (length ds) max_steps most) in
    and_from (is_size max_steps (length ss) && list_all has_sizes ss) _ (and_from (is_size max_steps (length ss)) _ count (have_sizes-each 0 ds ss e))
    (are_steps-each 0 ds ss e)
