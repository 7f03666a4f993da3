-- The runs that the walk gives are within the limits of plans.
use Rattle.std.proofs.Common.{◌≡◌, ℕ, suc, ◌+◌, ◌≤◌, ◌&&◌, nat_le, codes, List, [], ◌∷◌, length, true, Option, Some, option_and_then, Result, Ok, Err, refl, ap, arith, le-leb, leb-true}
use Rattle.std.specs.List.{list_all}
use Rattle.std.proofs.lemmas.Bool.{and_from}
use Rattle.std.proofs.lemmas.List.Sums.{sum_by-cons}
use Rattle.std.proofs.lemmas.Option.{cond_some, option_and_then_some}
use Rattle.serde_json.specs.Data.{Data}
use Rattle.serde_json.specs.Find.{get, as_object, as_str}
use Rattle.ratios.specs.Ratio.{Ratio, is_below, zero_ratio}
use Rattle.frac_core.specs.declared.FracFault.{FracFault}
use Rattle.frac_core.specs.Text.{weight_of}
use Rattle.plan_model.specs.declared.step.Run.{Run}
use Rattle.plan_model.specs.Limits.{is_run}
use Rattle.plan_model.specs.Pieces.{piece_count}
use Rattle.plan_model.specs.Sizes.{max_pieces}
use Rattle.expr_text.specs.declared.fault.Limit.TheVariants as limit
use Rattle.expr_text.specs.declared.fault.Place.{Place}
use Rattle.expr_text.specs.declared.fault.PlanText.TheVariants as fault
use Rattle.expr_text.specs.Fields.{or_shape, list_in}
use Rattle.plan_reader.specs.Fields.{only, whole_in}
use Rattle.plan_reader.specs.Runs.{positive, weight_in, max_times, run_fields, run_of, run_in, pieces_with, runs_after, runs_in}
use Rattle.expr_text.proofs.Walks.{cond_ok, some-list_in, was_there}
use Rattle.plan_reader.proofs.Numbers.{whole_in-bounds}
use Rattle.json_fields.proofs.Walks.{both_steps}

positive-above : (r : Result Ratio FracFault) (q : Ratio) → positive r ≡ Some q → is_below zero_ratio q ≡ true
positive-above (Ok x) q e =
    let tested = cond_some (is_below zero_ratio x) x q e in
    rw (← tested.1) tested.0
positive-above (Err fault) q e = cc

weight_in-above : (p : Place) (d : Data) (q : Ratio) → weight_in p d ≡ Ok q → is_below zero_ratio q ≡ true
weight_in-above p d q e =
    option_and_then_some (λ text. positive (weight_of text)) (option_and_then as_str (get (codes "weight") d)) q (was_there p _ q e) (λ text is found. positive-above (weight_of text) q found)

is_run-run_in : (p : Place) (d : Data) (r : Ratio × ℕ) → run_in p d ≡ Ok r → is_run (run_of r) ≡ true
unfolding run_in
is_run-run_in p d r e =
    let members = both_steps (or_shape p (as_object d)) _ r e in
    let w = both_steps (weight_in p d) _ r members.2 in
    let count = both_steps (whole_in p (codes "times") 1 max_times d) _ r w.2 in
    let known = both_steps (only p run_fields members.0) _ r count.2 in
    let same : (w.0, count.0) ≡ r = (let last = known.2 in cc) in
    rw (← same, weight_in-above p d w.0 w.1, (whole_in-bounds p (codes "times") 1 max_times d count.0 count.1).0) refl

-- the runs are within the limits, one for each value, and with those before they have at most 4,096 pieces
record AreGoodAfter (before many : ℕ) (rs : List Run) : Type 0 where
  pub limits : list_all is_run rs ≡ true
  pub count : length rs ≡ many
  pub few : before + piece_count rs ≤ max_pieces

good-runs_after : (p : Place) (before : ℕ) (ds : List Data) (rs : List Run) → before ≤ max_pieces → runs_after p before ds ≡ Ok rs →
    AreGoodAfter before (length ds) rs
good-runs_after p before [] rs few e =
    let none : [] ≡ rs = cc in rw (← none) (record { limits = refl; count = refl; few = omega (arith, few) })
good-runs_after p before (d ∷ ds) rs few e =
    let first = both_steps (run_in p d) _ rs e in
    let pieces = both_steps (pieces_with p before first.0.1) _ rs first.2 in
    let rest = both_steps (runs_after p pieces.0 ds) _ rs pieces.2 in
    let same : run_of first.0 ∷ rest.0 ≡ rs = (let last = rest.2 in cc) in
    let short = cond_ok (nat_le (before + first.0.1) max_pieces) (before + first.0.1) pieces.0 (fault.Over p.step limit.Pieces) pieces.1 in
    let within : pieces.0 ≤ max_pieces = omega (arith, short.1, leb-true (before + first.0.1) max_pieces short.0) in
    let others = good-runs_after p pieces.0 ds rest.0 within rest.1 in
    rw (← same) (record {
      limits = and_from (is_run (run_of first.0)) _ (is_run-run_in p d first.0 first.1) others.limits;
      count = ap suc others.count;
      few = omega (arith, short.1, others.few, sum_by-cons (λ (x : Run). x.times) (run_of first.0) rest.0);
    })

-- there is one run or more, each within the limits, and they have at most 4,096 pieces together
pub record AreGoodRuns (rs : List Run) : Type 0 where
  pub limits : list_all is_run rs ≡ true
  pub sizes : (nat_le 1 (length rs) && nat_le (piece_count rs) max_pieces) ≡ true

pub good-runs_in : (p : Place) (found : Option Data) (rs : List Run) → runs_in p found ≡ Ok rs → AreGoodRuns rs
unfolding runs_in
good-runs_in p found rs e =
    let list = both_steps (list_in p found) _ rs e in
    let good = good-runs_after p 0 list.0 rs (omega arith) list.2 in
    let some = some-list_in p found list.0 list.1 in
    record {
      limits = good.limits;
      sizes = and_from (nat_le 1 (length rs)) _ (le-leb 1 (length rs) (omega (arith, good.count, some))) (le-leb (piece_count rs) max_pieces (omega (arith, good.few)));
    }
