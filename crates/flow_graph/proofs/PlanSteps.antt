-- What the operators and wires of a plan's steps make of its sources is what the plan makes of them.
use Rattle.std.specs.Prelude.{◌≡◌, ℕ, ◌<◌, Bool, true, is_some, List, [], ◌∷◌, ◌++◌, length, map, Option, Some, None, option_map}
use Rattle.std.specs.List.{AllByRecursion, position}
use Rattle.std.specs.Option.{unwrap_or}
use Rattle.std.proofs.Common.{refl, sym, ap, subst, ◌∙◌, true≢false}
use Rattle.std.proofs.lemmas.Bool.{and_from}
use Rattle.std.proofs.lemmas.List.Quantifiers.{position-Some}
use Rattle.dataflow.specs.Evaluation.{dataset_at, evals_after, step_output, step_passes}
use Rattle.dataflow.specs.Wiring.{RefersBefore}
use Rattle.datasets.specs.Dataset.{Dataset, empty}
use Rattle.op_parts.proofs.Ranges.{weights_in_range-all}
use Rattle.op_parts.proofs.Takes.{both_tested, columns_tested}
use Rattle.op_parts.specs.Takes.{has_columns}
use Rattle.plan_model.proofs.Positions.{is_some-position}
use Rattle.plan_model.proofs.Accepted.{Passes-fault_after}
use Rattle.plan_model.proofs.StepLaws.{inputs_are_earlier}
use Rattle.plan_model.specs.Acceptance.{fault_after, knows_source, matches_kinds}
use Rattle.plan_model.specs.Evaluation.{Family, eval_step, step_by_step_after}
use Rattle.plan_model.specs.Fits.{step_fits as plan_step_fits}
use Rattle.plan_model.specs.Inputs.{of_left, of_right}
use Rattle.plan_model.specs.Limits.{is_step}
use Rattle.plan_model.specs.Sources.{has_name, place_of}
use Rattle.plan_model.specs.Types.{HasColumns, columns_at}
use Rattle.plan_model.specs.declared.source_types.SourceType.{SourceType}
use Rattle.plan_model.specs.declared.step.Step.{Step}
use Rattle.record_text.proofs.Equality.{kinds_decided}
use Rattle.record_text.specs.Names.{name_eq}
use Rattle.record_text.specs.declared.kinds.Kind.{Kind}
use Rattle.weighted_set.specs.Held.{AllInRange}
use Rattle.flow_graph.specs.Steps.{step_meaning, wire_of}

-- ---- the places of sources
some_of : {X : Type 0} (o : Option X) → is_some o ≡ true → (x : X) × (o ≡ Some x)
some_of None e = absurd (true≢false (sym e))
some_of (Some x) e = (x, refl)

pub place_known : (name : List ℕ) (types : List SourceType) → has_name types name ≡ true → (i : ℕ) × (place_of name types ≡ Some i)
place_known name types known = some_of (place_of name types) (is_some-position (λ (t : SourceType). name_eq name t.name) types ∙ known)

place_within : (has : SourceType → Bool) (types : List SourceType) (i : ℕ) → position has types ≡ Some i → i < length types
place_within has [] i e = cc
place_within has (t ∷ types) i e = (position-Some has (t ∷ types) i t e).0

-- ---- steps
module _ (types : List SourceType) where
  pub refers_before : (i : ℕ) (s : Step) → is_step i s ≡ true → knows_source types s ≡ true → RefersBefore (length types) i (wire_of types s)
  refers_before i (Step.Source name) step known =
      let place = place_known name types known in
      subst (λ o. unwrap_or o 0 < length types) (sym place.1) (place_within (λ (t : SourceType). name_eq name t.name) types place.0 place.1)
  refers_before i (Step.Filter of test) step known = ((inputs_are_earlier i (Step.Filter of test) step).0, tt)
  refers_before i (Step.Select of row) step known = ((inputs_are_earlier i (Step.Select of row) step).0, tt)
  refers_before i (Step.Many of over items) step known = ((inputs_are_earlier i (Step.Many of over items) step).0, tt)
  refers_before i (Step.Shave of runs) step known = ((inputs_are_earlier i (Step.Shave of runs) step).0, tt)
  refers_before i (Step.Set kind left right) step known = let before = inputs_are_earlier i (Step.Set kind left right) step in (before.0, before.1.0)
  refers_before i (Step.Join left right left_key right_key) step known = let before = inputs_are_earlier i (Step.Join left right left_key right_key) step in (before.0, before.1.0)
  refers_before i (Step.Group of key reduce) step known = ((inputs_are_earlier i (Step.Group of key reduce) step).0, tt)

  module _ (cs : List (List Kind)) (F : Family) where
    -- its dataset is what its operator makes of its inputs, or the source's
    pub step_output-eval_step : (s : Step) (As : List Dataset) → knows_source types s ≡ true → step_output (step_meaning cs s).output (wire_of types s) F As ≡ eval_step types F s As
    step_output-eval_step (Step.Source name) As known =
        let place = place_known name types known in
        ap (λ o. dataset_at F (unwrap_or o 0)) place.1 ∙ sym (ap (λ o. unwrap_or (option_map (dataset_at F) o) empty) place.1)
    step_output-eval_step (Step.Filter of test) As known = refl
    step_output-eval_step (Step.Select of row) As known = refl
    step_output-eval_step (Step.Many of over items) As known = refl
    step_output-eval_step (Step.Shave of runs) As known = refl
    step_output-eval_step (Step.Set kind left right) As known = refl
    step_output-eval_step (Step.Join left right left_key right_key) As known = refl
    step_output-eval_step (Step.Group of key reduce) As known = refl

    -- its operator fits just where the step does
    pub step_fits-plan : (s : Step) (As : List Dataset) → knows_source types s ≡ true → ((place : ℕ) → AllInRange (dataset_at F place)) → step_passes (step_meaning cs s).fits (wire_of types s) As ≡ plan_step_fits types F As s
    step_fits-plan (Step.Source name) As known in_range =
        sym (weights_in_range-all (eval_step types F (Step.Source name) As) (subst AllInRange (step_output-eval_step (Step.Source name) As known) (in_range (unwrap_or (place_of name types) 0))))
    step_fits-plan (Step.Filter of test) As known in_range = refl
    step_fits-plan (Step.Select of row) As known in_range = refl
    step_fits-plan (Step.Many of over items) As known in_range = refl
    step_fits-plan (Step.Shave of runs) As known in_range = refl
    step_fits-plan (Step.Set kind left right) As known in_range = refl
    step_fits-plan (Step.Join left right left_key right_key) As known in_range = refl
    step_fits-plan (Step.Group of key reduce) As known in_range = refl

    -- its operator takes inputs that have the columns of their steps
    pub step_takes : (s : Step) (As : List Dataset) → matches_kinds s (of_left [] cs s) (of_right [] cs s) ≡ true → ((i : ℕ) → HasColumns (columns_at cs i) (dataset_at As i)) → step_passes (step_meaning cs s).takes (wire_of types s) As ≡ true
    step_takes (Step.Source name) As kinds typed = refl
    step_takes (Step.Filter of test) As kinds typed = columns_tested (columns_at cs of) (dataset_at As of) (typed of)
    step_takes (Step.Select of row) As kinds typed = columns_tested (columns_at cs of) (dataset_at As of) (typed of)
    step_takes (Step.Many of over items) As kinds typed = columns_tested (columns_at cs of) (dataset_at As of) (typed of)
    step_takes (Step.Shave of runs) As kinds typed = columns_tested (columns_at cs of) (dataset_at As of) (typed of)
    step_takes (Step.Set kind left right) As kinds typed =
        both_tested (columns_at cs left) (dataset_at As left) (dataset_at As right) (typed left)
        (subst (λ cols. HasColumns cols (dataset_at As right)) (sym ((kinds_decided (columns_at cs left) (columns_at cs right)).0 kinds)) (typed right))
    step_takes (Step.Join left right left_key right_key) As kinds typed =
        and_from (has_columns (columns_at cs left) (dataset_at As left)) (has_columns (columns_at cs right) (dataset_at As right))
        (columns_tested (columns_at cs left) (dataset_at As left) (typed left)) (columns_tested (columns_at cs right) (dataset_at As right) (typed right))
    step_takes (Step.Group of key reduce) As kinds typed = columns_tested (columns_at cs of) (dataset_at As of) (typed of)

    -- ---- all steps
    pub evals_after-steps : (ss : List Step) (As : List Dataset) → AllByRecursion (λ s. knows_source types s ≡ true) ss
        → evals_after As (map (step_meaning cs) ss) (map (wire_of types) ss) F ≡ step_by_step_after (eval_step types F) As ss
    evals_after-steps [] As known = refl
    evals_after-steps (s ∷ ss) As known =
        ap (λ A. evals_after (As ++ A ∷ []) (map (step_meaning cs) ss) (map (wire_of types) ss) F) (step_output-eval_step s As known.0)
        ∙ evals_after-steps ss (As ++ eval_step types F s As ∷ []) known.1

  -- an accepted plan names known sources alone
  pub knows_sources : (before ss : List Step) → fault_after types before ss ≡ None → AllByRecursion (λ s. knows_source types s ≡ true) ss
  knows_sources before [] none = tt
  knows_sources before (s ∷ ss) none = let parts = Passes-fault_after types before s ss none in (parts.0.known_source, knows_sources (before ++ s ∷ []) ss parts.1)
