-- The work of a plan's operators, and the changed rows of its last step, are within the plan's work.
use Rattle.std.specs.Prelude.{◌≡◌, ℕ, zero, suc, ◌+◌, ◌-◌, ◌*◌, ◌<◌, ◌≤◌, List, [], ◌∷◌, length, slice_get, Option, Some}
use Rattle.std.specs.List.{sum_by}
use Rattle.std.proofs.Common.{refl, sym, ap, ap₂, subst, ◌∙◌, arith, get_or, take, add-one}
use Rattle.std.proofs.lemmas.List.{take_all}
use Rattle.std.proofs.lemmas.List.Sums.{sum_by-cons, sum_by_more}
use Rattle.std.proofs.lemmas.Option.{same_Some, slice_get-get_or}
use Rattle.dataflow.proofs.Evaluated.{evals-at}
use Rattle.dataflow.specs.Evaluation.{dataset_at, evals, last_output, step_output}
use Rattle.dataflow.specs.Wiring.{wire_at}
use Rattle.dataflow.specs.Work.{all_works, both_works, changed_outputs, step_work, wired_work, work_at, works_before}
use Rattle.datasets.specs.Dataset.{Dataset, differing}
use Rattle.plan_model.proofs.Plans.{some_steps}
use Rattle.plan_model.specs.Evaluation.{Family, eval_step, evals as plan_evals}
use Rattle.plan_model.specs.Types.{columns}
use Rattle.plan_model.specs.declared.source_types.SourceType.{SourceType}
use Rattle.plan_model.specs.declared.step.Step.{Step}
use Rattle.record_text.specs.declared.kinds.Kind.{Kind}
use Rattle.weighted_set.specs.Standing.{IsWithin, Meaning}
use Rattle.flow_graph.proofs.PlanGraphs.{are_wired, evals-plan, known_at, length-meanings, length-wires, meaning_at-step, wire_at-step}
use Rattle.flow_graph.proofs.PlanSteps.{step_output-eval_step}
use Rattle.flow_graph.specs.Plans.{IsKept}
use Rattle.flow_graph.specs.Steps.{plan_meanings, plan_wires, step_meaning, wire_of}
use Rattle.flow_graph.specs.Work.{changed_count, most_ticks, work_at_keys, work_of_step}

-- ---- sums over steps
sum_within : (f h : Step → ℕ) → ((s : Step) → f s ≤ h s) → (ss : List Step) → sum_by f ss ≤ sum_by h ss
sum_within f h each [] = omega arith
sum_within f h each (s ∷ ss) =
    let here = each s in
    let rest = sum_within f h each ss in
    omega (arith, sum_by-cons f s ss, sum_by-cons h s ss)

-- a sum, and for one of the steps what it adds to
sum_with_one : (f g h : Step → ℕ) → ((s : Step) → f s + g s ≤ h s) → (ss : List Step) (i : ℕ) (s : Step) → slice_get ss i ≡ Some s → sum_by f ss + g s ≤ sum_by h ss
sum_with_one f g h each [] i s at = cc
sum_with_one f g h each (t ∷ ss) zero s at =
    let here = each t in
    let same : g t ≡ g s = ap g (same_Some t s at) in
    let rest = sum_within f h (λ u. let both = each u in omega arith) ss in
    omega (arith, sum_by-cons f t ss, sum_by-cons h t ss)
sum_with_one f g h each (t ∷ ss) (suc i) s at =
    let here = each t in
    let rest = sum_with_one f g h each ss i s at in
    omega (arith, sum_by-cons f t ss, sum_by-cons h t ss)

none_within : (n : ℕ) → 0 ≤ n
none_within n = omega arith

all_within : (n : ℕ) → n ≤ n
all_within n = omega arith

swapped : (k w c : ℕ) → k ≤ w → k + c ≤ c + w
swapped k w c h = omega arith

-- ---- steps
module _ (types : List SourceType) (cs : List (List Kind)) (F G : Family) (As Bs : List Dataset) where
  -- the work of a step's operator; a source has none
  key_work : Step → ℕ
  key_work (Step.Source name) = 0
  key_work s = work_at_keys types F G As Bs s

  step_work-some : (s : Step) → step_work (step_meaning cs s).work (wire_of types s) As Bs ≡ Some (key_work s)
  unfolding key_work
  step_work-some (Step.Source name) = refl
  step_work-some (Step.Filter of test) = refl
  step_work-some (Step.Select of row) = refl
  step_work-some (Step.Many of over items) = refl
  step_work-some (Step.Shave of runs) = refl
  step_work-some (Step.Set kind left right) = refl
  step_work-some (Step.Join left right left_key right_key) = refl
  step_work-some (Step.Group of key reduce) = refl

  key_work-le : (s : Step) → key_work s ≤ work_at_keys types F G As Bs s
  unfolding key_work
  key_work-le (Step.Source name) = none_within (work_at_keys types F G As Bs (Step.Source name))
  key_work-le s = all_within (work_at_keys types F G As Bs s)

  within_step : (s : Step) → key_work s + changed_count types F G As Bs s ≤ work_of_step types F G As Bs s
  within_step s = swapped (key_work s) (work_at_keys types F G As Bs s) (changed_count types F G As Bs s) (key_work-le s)

-- ---- all steps
module _ (plan : List Step) (types : List SourceType) (kept : IsKept plan types) (F G : Family) where
  abbrev ms : List Meaning
  ms = plan_meanings plan types

  abbrev As : List Dataset
  As = plan_evals plan types F

  abbrev Bs : List Dataset
  Bs = plan_evals plan types G

  abbrev own : Step → ℕ
  own s = key_work types (columns plan types) F G As Bs s

  abbrev no_step : Step
  no_step = Step.Source []

  at_place : (i : ℕ) → i < length plan → slice_get plan i ≡ Some (get_or plan i no_step)
  at_place i within = slice_get-get_or plan i no_step within

  work_at-some : (i : ℕ) (s : Step) → slice_get plan i ≡ Some s → work_at ms (plan_wires plan types) F G i ≡ Some (own s)
  work_at-some i s at =
      let ws = plan_wires plan types in
      let m = step_meaning (columns plan types) s in
      ap (λ (m : Meaning). step_work m.work (wire_at ws i) (evals ms ws F) (evals ms ws G)) (meaning_at-step plan types kept i s at)
      ∙ ap (λ w. step_work m.work w (evals ms ws F) (evals ms ws G)) (wire_at-step plan types kept i s at)
      ∙ ap₂ (step_work m.work (wire_of types s)) (evals-plan plan types kept F) (evals-plan plan types kept G)
      ∙ step_work-some types (columns plan types) F G As Bs s

  works_before-some : (i : ℕ) → i ≤ length plan → works_before ms (plan_wires plan types) F G i ≡ Some (sum_by own (take i plan))
  works_before-some zero below = refl
  works_before-some (suc i) below =
      let within : i < length plan = omega arith in
      ap₂ both_works (works_before-some i (omega arith)) (work_at-some i (get_or plan i no_step) (at_place i within))
      ∙ ap Some (sym (ap (λ n. sum_by own (take n plan)) (sym (add-one i)) ∙ sum_by_more own plan i no_step within))

  all_works-some : all_works ms (plan_wires plan types) F G ≡ Some (sum_by own plan)
  all_works-some =
      ap (works_before ms (plan_wires plan types) F G) (length-wires plan types kept)
      ∙ works_before-some (length plan) (omega arith)
      ∙ ap (λ ss. Some (sum_by own ss)) (take_all (length plan) plan (omega arith))

  -- the output is the dataset of the last step
  last_output-step : (H : Family) (s : Step) → slice_get plan (length plan - 1) ≡ Some s → last_output ms (plan_wires plan types) H ≡ eval_step types H s (plan_evals plan types H)
  last_output-step H s at =
      let ws = plan_wires plan types in
      let last = length plan - 1 in
      let some = some_steps plan kept.steps in
      let means = length-meanings plan types kept in
      let size = length-wires plan types kept in
      let output = (step_meaning (columns plan types) s).output in
      ap (λ n. dataset_at (evals ms ws H) (n - 1)) size
      ∙ evals-at ms ws (length types) H last (means ∙ sym size) (are_wired plan types kept) (omega arith)
      ∙ ap (λ (m : Meaning). step_output m.output (wire_at ws last) H (evals ms ws H)) (meaning_at-step plan types kept last s at)
      ∙ ap (λ w. step_output output w H (evals ms ws H)) (wire_at-step plan types kept last s at)
      ∙ ap (step_output output (wire_of types s) H) (evals-plan plan types kept H)
      ∙ step_output-eval_step types (columns plan types) H s (plan_evals plan types H) (known_at plan types kept last s at)

  -- the ticks within the work of the wires are within that of the plan
  pub most_ticks-wired : (a b : ℕ) → IsWithin a (wired_work ms (plan_wires plan types) F G) b → b ≤ a + most_ticks plan types F G
  most_ticks-wired a b h =
      let last = length plan - 1 in
      let some = some_steps plan kept.steps in
      let s = get_or plan last no_step in
      let at = at_place last (omega arith) in
      let changed : changed_outputs ms (plan_wires plan types) F G ≡ changed_count types F G As Bs s =
      ap₂ (λ A B. length (differing A B)) (last_output-step F s at) (last_output-step G s at) in
      let whole = ap₂ (λ (w : Option ℕ) (n : ℕ). both_works w (Some n)) all_works-some changed in
      let sum = sum_with_one own (changed_count types F G As Bs) (work_of_step types F G As Bs) (within_step types (columns plan types) F G As Bs) plan last s at in
      let ticks : b ≤ a + 8 * (sum_by own plan + changed_count types F G As Bs s) = subst (λ w. IsWithin a w b) whole h in
      omega (arith, ticks, sum)
