-- The runs that a value denotes, or the first fault of their walk. All faults name one field of the step.
use Rattle.std.specs.Prelude.{ℕ, ◌+◌, nat_le, List, [], ◌∷◌, codes, if◌then◌else◌, Option, Some, None, option_and_then, Result, Ok, Err}
use Rattle.serde_json.specs.Data.{Data}
use Rattle.serde_json.specs.Find.{get, as_object, as_str}
use Rattle.json_fields.specs.Walk.{◌>>=◌}
use Rattle.ratios.specs.Ratio.{Ratio, is_below, zero_ratio}
use Rattle.frac_core.specs.declared.FracFault.{FracFault}
use Rattle.frac_core.specs.Text.{weight_of}
use Rattle.plan_model.specs.declared.step.Run.{Run}
use Rattle.plan_model.specs.Sizes.{max_pieces}
use Rattle.expr_text.specs.declared.fault.Limit.TheVariants as limit
use Rattle.expr_text.specs.declared.fault.Place.{Place}
use Rattle.expr_text.specs.declared.fault.PlanText.{PlanText}
use Rattle.expr_text.specs.Fields.{or_shape, list_in}
use Rattle.expr_text.specs.Gives.{over}
use Rattle.plan_reader.specs.Fields.{only, whole_in}

-- a fraction above 0
abbrev pub positive : Result Ratio FracFault → Option Ratio
positive (Ok q) = if is_below zero_ratio q then Some q else None
positive (Err fault) = None

-- the weight of a run: the text of a fraction above 0
abbrev pub weight_in : Place → Data → Result Ratio PlanText
weight_in p d = or_shape p (option_and_then (λ text. positive (weight_of text)) (option_and_then as_str (get (codes "weight") d)))

-- the greatest whole number that is read
abbrev pub max_times : ℕ
max_times = 18446744073709551615

-- the fields of a run
abbrev pub run_fields : List (List ℕ)
run_fields = codes "weight" ∷ codes "times" ∷ []

-- the run of a weight, so many times
abbrev pub run_of : Ratio × ℕ → Run
run_of r = record { weight = r.0; times = r.1 }

-- the weight and the times of a run: its fields in their order, and then a field that it doesn't have
unfoldable pub run_in : Place → Data → Result (Ratio × ℕ) PlanText
run_in p d = do
  ms ← or_shape p (as_object d)
  w ← weight_in p d
  count ← whole_in p (codes "times") 1 max_times d
  known ← only p run_fields ms
  Ok (w, count)

-- the pieces before and these, together at most 4,096
abbrev pub pieces_with : Place → ℕ → ℕ → Result ℕ PlanText
pieces_with p before more = if nat_le (before + more) max_pieces then Ok (before + more) else over p.step limit.Pieces

-- the runs of a list, before which there are so many pieces
abbrev pub runs_after : Place → ℕ → List Data → Result (List Run) PlanText
runs_after p before [] = Ok []
runs_after p before (d ∷ ds) = do
  run ← run_in p d
  pieces ← pieces_with p before run.1
  runs ← runs_after p pieces ds
  Ok (run_of run ∷ runs)

-- one run or more
unfoldable pub runs_in : Place → Option Data → Result (List Run) PlanText
runs_in p found = do
  ds ← list_in p found
  runs_after p 0 ds
