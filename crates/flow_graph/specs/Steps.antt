-- The wires of a plan's steps, and what their operators mean.
use Rattle.std.specs.Prelude.{ℕ, Bool, ◌&&◌, false, List, [], ◌∷◌, Option, None, Some, map}
use Rattle.std.specs.Option.{unwrap_or}
use Rattle.dataflow.specs.declared.wire.Wire.{Wire}
use Rattle.dataflow.specs.declared.wire.Wire.TheVariants.{Source, Of}
use Rattle.datasets.specs.Dataset.{Dataset}
use Rattle.engines.specs.Work.{part_work}
use Rattle.op_parts.specs.Takes.{both_have_columns, has_columns}
use Rattle.plan_model.specs.Evaluation.{operator_of}
use Rattle.plan_model.specs.Fits.{operator_fits}
use Rattle.plan_model.specs.Inputs.{inputs, of_left, of_right}
use Rattle.plan_model.specs.Keys.{left_keys, right_keys}
use Rattle.plan_model.specs.Sources.{place_of}
use Rattle.plan_model.specs.Types.{columns}
use Rattle.plan_model.specs.declared.source_types.SourceType.{SourceType}
use Rattle.plan_model.specs.declared.step.Step.{Step}
use Rattle.record_text.specs.declared.kinds.Kind.{Kind}
use Rattle.weighted_set.specs.Standing.{Meaning}

-- a wire from one or two earlier steps
abbrev pub wire_from : List ℕ → Wire
wire_from [] = Source 0
wire_from (left ∷ []) = Of left None
wire_from (left ∷ right ∷ more) = Of left (Some right)

-- where the inputs of a step come from
abbrev pub wire_of : List SourceType → Step → Wire
wire_of types (Step.Source name) = Source (unwrap_or (place_of name types) 0)
wire_of types s = wire_from (inputs s)

-- the inputs A and B of a step have the columns of its left and its right input; a source has no inputs
abbrev pub takes_inputs : Step → List Kind → List Kind → Dataset → Dataset → Bool
takes_inputs (Step.Source name) left right A B = false
takes_inputs (Step.Filter of test) left right A B = has_columns left A
takes_inputs (Step.Select of row) left right A B = has_columns left A
takes_inputs (Step.Many of over items) left right A B = has_columns left A
takes_inputs (Step.Shave of runs) left right A B = has_columns left A
takes_inputs (Step.Set kind i j) left right A B = both_have_columns left A B
takes_inputs (Step.Join i j left_key right_key) left right A B = has_columns left A && has_columns right B
takes_inputs (Step.Group of key reduce) left right A B = has_columns left A

-- the work of a step whose inputs A and B become C and D; a source has none
abbrev pub step_work : Step → Dataset → Dataset → Dataset → Dataset → Option ℕ
step_work (Step.Source name) A B C D = None
step_work s A B C D = Some (part_work (left_keys s) (right_keys s) A B C D)

-- what a step means, from the columns of the steps before
abbrev pub step_meaning : List (List Kind) → Step → Meaning
step_meaning cs s = record {
  takes = takes_inputs s (of_left [] cs s) (of_right [] cs s);
  fits = operator_fits s;
  output = operator_of s;
  work = step_work s;
}

-- the wires of a plan
abbrev pub plan_wires : List Step → List SourceType → List Wire
plan_wires plan types = map (wire_of types) plan

-- what the steps of a plan mean
abbrev pub plan_meanings : List Step → List SourceType → List Meaning
plan_meanings plan types = map (step_meaning (columns plan types)) plan
