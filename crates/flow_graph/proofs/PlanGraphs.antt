-- The nodes and wires of a plan.
use Rattle.std.specs.Prelude.{◌≡◌, ℕ, ◌-◌, ◌<◌, ◌≤◌, Bool, true, is_some, not, List, [], ◌∷◌, length, slice_get, slice_index_or, take, Some, None, zero, suc}
use Rattle.std.specs.List.{AllByRecursion}
use Rattle.std.specs.Option.{unwrap_or}
use Rattle.std.proofs.Common.{inl, inr, refl, sym, ap, ap₂, subst, ◌∙◌, true≢false, arith, get_or}
use Rattle.std.proofs.lemmas.Bool.{true_from_ne_false}
use Rattle.std.proofs.lemmas.List.{length-map}
use Rattle.std.proofs.lemmas.List.Folds.{list_any_at}
use Rattle.std.proofs.lemmas.Option.{get_or_from_slice_get, same_Some, slice_get_cases, slice_get_past, unwrap_or-slice_get}
use Rattle.dataflow.proofs.Evaluated.{fits_at-past, get_or-map_at}
use Rattle.dataflow.specs.Changes.{AreFamilyChanges}
use Rattle.dataflow.specs.Evaluation.{dataset_at, evals, fits_at, last_output, meaning_at, no_operator, step_passes, takes_at}
use Rattle.dataflow.specs.Standing.{IsMisfit, MayChange}
use Rattle.dataflow.specs.Wiring.{AreWired, RefersBefore, wire_at}
use Rattle.dataflow.specs.declared.wire.Wire.{Wire}
use Rattle.dataflow.specs.declared.wire.Wire.TheVariants.{Source}
use Rattle.datasets.specs.Dataset.{empty}
use Rattle.plan_model.proofs.Plans.{some_steps, step_of_plan}
use Rattle.plan_model.proofs.Positions.{is_some-position, position_found, position_none}
use Rattle.plan_model.proofs.StepLaws.{inputs_are_earlier}
use Rattle.plan_model.proofs.AcceptedTypes.{accepted_is_typed}
use Rattle.plan_model.proofs.StepByStep.{length-step_by_step_after}
use Rattle.plan_model.specs.Acceptance.{knows_source, matches_kinds, reads_columns, step_has_columns, step_has_kinds}
use Rattle.plan_model.specs.Evaluation.{Family, eval, eval_step, evals as plan_evals, last_or}
use Rattle.plan_model.specs.Fits.{misfit, step_fits as plan_step_fits}
use Rattle.plan_model.specs.Inputs.{of_left, of_right}
use Rattle.plan_model.specs.Types.{Keeps, columns, columns_step}
use Rattle.plan_model.specs.declared.source_types.SourceType.{SourceType}
use Rattle.plan_model.specs.declared.step.Step.{Step}
use Rattle.record_text.specs.declared.kinds.Kind.{Kind}
use Rattle.weighted_set.specs.Held.{AllInRange}
use Rattle.weighted_set.specs.Standing.{Meaning}
use Rattle.weighted_set.specs.declared.weighted.Change.{Change}
use Rattle.flow_graph.proofs.Fronts.{Passes-at, of_inputs-front}
use Rattle.flow_graph.proofs.PlanSteps.{evals_after-steps, knows_sources, refers_before, step_fits-plan, step_takes}
use Rattle.flow_graph.specs.Plans.{IsKept, MayStand}
use Rattle.flow_graph.specs.Steps.{plan_meanings, plan_wires, step_meaning, wire_of}

-- ---- places of lists
last_at : {X : Type 0} (x : X) (xs : List X) (n : ℕ) (d : X) → length xs ≡ n → last_or x xs ≡ get_or (x ∷ xs) n d
last_at x [] zero d size = refl
last_at x [] (suc n) d size = absurd (omega arith)
last_at x (y ∷ ys) zero d size = absurd (omega arith)
last_at x (y ∷ ys) (suc n) d size = last_at y ys n d (omega arith)

last_or-get_or : {X : Type 0} (d : X) (xs : List X) (e : X) → 0 < length xs → last_or d xs ≡ get_or xs (length xs - 1) e
last_or-get_or d [] e some = absurd (omega arith)
last_or-get_or d (x ∷ xs) e some = last_at x xs (length (x ∷ xs) - 1) e (omega arith)

knows_at : (types : List SourceType) (ss : List Step) (i : ℕ) (s : Step) → slice_get ss i ≡ Some s → AllByRecursion (λ s. knows_source types s ≡ true) ss → knows_source types s ≡ true
knows_at types [] i s at known = cc
knows_at types (t ∷ ss) zero s at known = subst (λ u. knows_source types u ≡ true) (same_Some t s at) known.0
knows_at types (t ∷ ss) (suc i) s at known = knows_at types ss i s at known.1

-- a step whose inputs are other steps has their kinds; a source has no inputs
pub kinds-of_steps : (types : List SourceType) (s : Step) (cs : List (List Kind)) → step_has_kinds types s cs ≡ true → matches_kinds s (of_left [] cs s) (of_right [] cs s) ≡ true
kinds-of_steps types (Step.Source name) cs typed = refl
kinds-of_steps types s cs typed = typed

-- and it reads columns of theirs
pub columns-of_steps : (types : List SourceType) (s : Step) (cs : List (List Kind)) → step_has_columns types s cs ≡ true → reads_columns s (of_left [] cs s) (of_right [] cs s) ≡ true
columns-of_steps types (Step.Source name) cs within = refl
columns-of_steps types s cs within = within

-- each step names a known source, and its inputs have the kinds that it needs
module _ (plan : List Step) (types : List SourceType) (kept : IsKept plan types) (i : ℕ) (s : Step) (at : slice_get plan i ≡ Some s) where
  pub known_at : knows_source types s ≡ true
  known_at = knows_at types plan i s at (knows_sources types [] plan kept.accepted)

  kinds_at : matches_kinds s (of_left [] (columns plan types) s) (of_right [] (columns plan types) s) ≡ true
  kinds_at =
      let front = of_inputs-front (columns_step types) plan i s at [] (inputs_are_earlier i s (step_of_plan plan i s at kept.steps)) in
      ap (λ cs. matches_kinds s (slice_index_or cs 0 []) (slice_index_or cs 1 [])) front
      ∙ kinds-of_steps types s (columns (take i plan) types) (Passes-at types [] plan i s kept.accepted at).right_kinds

module _ (plan : List Step) (types : List SourceType) (kept : IsKept plan types) where
  abbrev ms : List Meaning
  ms = plan_meanings plan types

  abbrev ws : List Wire
  ws = plan_wires plan types

  pub length-wires : length ws ≡ length plan
  length-wires = length-map plan (wire_of types)

  pub length-meanings : length ms ≡ length plan
  length-meanings = length-map plan (step_meaning (columns plan types))

  pub wire_at-step : (i : ℕ) (s : Step) → slice_get plan i ≡ Some s → wire_at ws i ≡ wire_of types s
  wire_at-step i s at = get_or-map_at (wire_of types) plan i s (Source 0) at

  pub meaning_at-step : (i : ℕ) (s : Step) → slice_get plan i ≡ Some s → meaning_at ms i ≡ step_meaning (columns plan types) s
  meaning_at-step i s at = get_or-map_at (step_meaning (columns plan types)) plan i s no_operator at

  pub are_wired : AreWired ws (length types)
  are_wired i within = elim (slice_get_cases plan i).1 as (λ _. RefersBefore (length types) i (wire_at ws i)) [
    | inl there ↦ subst (RefersBefore (length types) i) (sym (wire_at-step i there.0 there.2)) (refers_before types i there.0 (step_of_plan plan i there.0 there.2 kept.steps) (known_at plan types kept i there.0 there.2))
    | inr past ↦ absurd (let size = length-wires in let beyond = past.0 in omega arith)
  ]

  module _ (F : Family) where
    pub evals-plan : evals ms ws F ≡ plan_evals plan types F
    evals-plan = evals_after-steps types (columns plan types) F plan [] (knows_sources types [] plan kept.accepted)

    pub length-evals : length (plan_evals plan types F) ≡ length plan
    length-evals = let size = length-step_by_step_after (eval_step types F) [] plan in omega arith

    -- the last step's dataset is the plan's
    pub last_output-eval : last_output ms ws F ≡ eval plan types F
    last_output-eval =
        let some = some_steps plan kept.steps in
        let size = length-evals in
        ap₂ (λ As n. dataset_at As (n - 1)) evals-plan (length-wires ∙ sym length-evals) ∙ sym (last_or-get_or empty (plan_evals plan types F) empty (omega arith))

    -- the operator of a step takes what the plan gives it
    pub takes-each : Keeps types F → (i : ℕ) → takes_at ms ws F i ≡ true
    takes-each keeps i = elim (slice_get_cases plan i).1 as (λ _. takes_at ms ws F i ≡ true) [
      | inl there ↦
          ap (λ m. step_passes m.takes (wire_at ws i) (evals ms ws F)) (meaning_at-step i there.0 there.2)
          ∙ ap (λ w. step_passes (step_meaning (columns plan types) there.0).takes w (evals ms ws F)) (wire_at-step i there.0 there.2)
          ∙ ap (step_passes (step_meaning (columns plan types) there.0).takes (wire_of types there.0)) evals-plan
          ∙ step_takes types (columns plan types) F there.0 (plan_evals plan types F) (kinds_at plan types kept i there.0 there.2) (λ j. (accepted_is_typed plan types F j kept.accepted keeps).rows)
      | inr past ↦ ap (λ w. step_passes (meaning_at ms i).takes w (evals ms ws F)) (wire_at-past i past.0)
    ]
      where
        wire_at-past : (i : ℕ) → length plan ≤ i → wire_at ws i ≡ Source 0
        wire_at-past i past = sym (unwrap_or-slice_get ws i (Source 0)) ∙ ap (λ o. unwrap_or o (Source 0)) (slice_get_past ws i (let size = length-wires in omega arith))

    module _ (in_range : (place : ℕ) → AllInRange (dataset_at F place)) where
      -- the operator of a step fits just where the step does
      fits_at-step : (i : ℕ) (s : Step) → slice_get plan i ≡ Some s → fits_at ms ws F i ≡ plan_step_fits types F (plan_evals plan types F) s
      fits_at-step i s at =
          ap (λ m. step_passes m.fits (wire_at ws i) (evals ms ws F)) (meaning_at-step i s at)
          ∙ ap (λ w. step_passes (step_meaning (columns plan types) s).fits w (evals ms ws F)) (wire_at-step i s at)
          ∙ ap (step_passes (step_meaning (columns plan types) s).fits (wire_of types s)) evals-plan
          ∙ step_fits-plan types (columns plan types) F s (plan_evals plan types F) (known_at plan types kept i s at) in_range

      abbrev misfits : Step → Bool
      misfits s = not (plan_step_fits types F (plan_evals plan types F) s)

      misfits_at : (i : ℕ) (d : Step) → i < length plan → misfits (get_or plan i d) ≡ not (fits_at ms ws F i)
      misfits_at i d within = elim (slice_get_cases plan i).1 as (λ _. misfits (get_or plan i d) ≡ not (fits_at ms ws F i)) [
        | inl there ↦ ap misfits (get_or_from_slice_get plan i _ d there.2) ∙ ap not (sym (fits_at-step i there.0 there.2))
        | inr past ↦ absurd (let beyond = past.0 in omega arith)
      ]

      pub misfit-none : ((i : ℕ) → fits_at ms ws F i ≡ true) → misfit plan types F ≡ None
      misfit-none fits = position_none misfits plan (length plan) (omega arith) (λ k d below. misfits_at k d below ∙ ap not (fits k))

      pub misfit-some : (i : ℕ) → IsMisfit ms ws F i → misfit plan types F ≡ Some i
      misfit-some i first = elim (slice_get_cases plan i).1 as (λ _. misfit plan types F ≡ Some i) [
        | inl there ↦
            let within = there.1 in
            position_found misfits plan i _ there.2 (ap not (sym (fits_at-step i there.0 there.2)) ∙ ap not first.here)
            (λ k below. misfits_at k _ (omega arith) ∙ ap not (first.earlier k below))
        | inr past ↦ absurd (true≢false (sym (fits_at-past ms ws F i (let size = length-wires in let beyond = past.0 in omega arith)) ∙ first.here))
      ]

      pub fits-each : misfit plan types F ≡ None → (i : ℕ) → fits_at ms ws F i ≡ true
      fits-each none i = true_from_ne_false (fits_at ms ws F i) (λ here. elim (slice_get_cases plan i).1 as (λ _. ⊥) [
        | inl there ↦
            let within = there.1 in
            true≢false (sym (list_any_at misfits plan i there.0 within (misfits_at i there.0 within ∙ ap not here)) ∙ sym (is_some-position misfits plan) ∙ ap is_some none)
        | inr past ↦ true≢false (sym (fits_at-past ms ws F i (let size = length-wires in let beyond = past.0 in omega arith)) ∙ here)
      ])

  -- the sources may become G
  pub may_change : (sources : List (List Change)) (F G : Family) → MayStand plan types F → Keeps types G → AreFamilyChanges sources F G → MayChange ms ws sources F G
  may_change sources F G stands keeps changes = record {
    changes = changes;
    in_range = stands.in_range;
    fits_before = fits-each F stands.in_range stands.fits;
    takes_before = takes-each F stands.keeps;
    takes_after = takes-each G keeps;
  }
