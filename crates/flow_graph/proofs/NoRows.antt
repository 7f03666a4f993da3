-- Plans whose sources have no rows.
use Rattle.std.specs.Prelude.{◌≡◌, ℕ, zero, suc, ◌-◌, ◌&&◌, true, List, [], ◌∷◌, ◌++◌, length, map, Option, Some, None}
use Rattle.std.proofs.Common.{inl, inr, refl, sym, ap, ap₂, subst, ◌∙◌, arith}
use Rattle.std.proofs.lemmas.Option.{slice_get_cases}
use Rattle.dataflow.proofs.Evaluated.{fits_at-past, get_or-map_at}
use Rattle.dataflow.specs.Evaluation.{dataset_at, evals, evals_after, fits_at, no_operator, right_dataset, step_output, step_passes}
use Rattle.dataflow.specs.Standing.{OfInputs, meanings}
use Rattle.dataflow.specs.Wiring.{wire_at}
use Rattle.dataflow.specs.declared.wire.Wire.{Wire}
use Rattle.dataflow.specs.declared.wire.Wire.TheVariants.{Source, Of}
use Rattle.datasets.specs.Dataset.{Dataset, at, dataset_of, empty}
use Rattle.datasets.specs.Entries.{Row}
use Rattle.operators.specs.InRange.{weights_in_range}
use Rattle.plan_model.proofs.TypedSteps.{IsTyped-empty}
use Rattle.plan_model.specs.Evaluation.{Family, operator_of}
use Rattle.plan_model.specs.Fits.{inside_in_range, operator_fits}
use Rattle.plan_model.specs.Types.{Keeps, columns}
use Rattle.plan_model.specs.declared.source_types.SourceType.{SourceType}
use Rattle.plan_model.specs.declared.step.Step.{Step}
use Rattle.record_text.specs.declared.kinds.Kind.{Kind}
use Rattle.weighted_set.proofs.Sets.{AllInRange-empty}
use Rattle.weighted_set.specs.Held.{AllInRange}
use Rattle.weighted_set.specs.Parts.{StoreParts, committed_part}
use Rattle.weighted_set.specs.Standing.{Meaning, Standing}
use Rattle.flow_graph.proofs.PlanGraphs.{length-wires, misfit-none}
use Rattle.flow_graph.specs.Fresh.{AreFresh, no_rows}
use Rattle.flow_graph.specs.Plans.{IsKept, MayStand, PlanStands}
use Rattle.flow_graph.specs.Steps.{plan_meanings, plan_wires, step_meaning, wire_of}

-- ---- operators on no rows
none_of : dataset_of [] ≡ empty
unfolding dataset_of
none_of = refl

operator-empty : (s : Step) → operator_of s empty empty ≡ empty
unfolding empty dataset_of
operator-empty (Step.Source name) = refl
operator-empty (Step.Filter of test) = refl
operator-empty (Step.Select of row) = refl
operator-empty (Step.Many of over items) = refl
operator-empty (Step.Shave of runs) = refl
operator-empty (Step.Set kind left right) = refl
operator-empty (Step.Join left right left_key right_key) = refl
operator-empty (Step.Group of key reduce) = refl

inside-empty : (s : Step) → inside_in_range s empty empty ≡ true
unfolding empty
inside-empty (Step.Source name) = refl
inside-empty (Step.Filter of test) = refl
inside-empty (Step.Select of row) = refl
inside-empty (Step.Many of over items) = refl
inside-empty (Step.Shave of runs) = refl
inside-empty (Step.Set kind left right) = refl
inside-empty (Step.Join left right left_key right_key) = refl
inside-empty (Step.Group of key reduce) = refl

weights-empty : weights_in_range empty ≡ true
unfolding empty
weights-empty = refl

fits-empty : (s : Step) → operator_fits s empty empty ≡ true
fits-empty s = ap₂ (λ a b. a && b) (inside-empty s) (ap weights_in_range (operator-empty s) ∙ weights-empty)

-- ---- datasets without rows
-- each of the datasets has no rows
abbrev pub HaveNoRows : List Dataset → Type 0
HaveNoRows As = (j : ℕ) → dataset_at As j ≡ empty

pub HaveNoRows-sources : (types : List SourceType) → HaveNoRows (no_rows types)
HaveNoRows-sources [] j = refl
HaveNoRows-sources (t ∷ types) zero = refl
HaveNoRows-sources (t ∷ types) (suc j) = HaveNoRows-sources types j

HaveNoRows-more : (As : List Dataset) (A : Dataset) → HaveNoRows As → A ≡ empty → HaveNoRows (As ++ A ∷ [])
HaveNoRows-more [] A h is zero = is
HaveNoRows-more [] A h is (suc j) = refl
HaveNoRows-more (B ∷ As) A h is zero = h 0
HaveNoRows-more (B ∷ As) A h is (suc j) = HaveNoRows-more As A (λ k. h (suc k)) is j

HaveNoRows-right : (As : List Dataset) (right : Option ℕ) → HaveNoRows As → right_dataset As right ≡ empty
HaveNoRows-right As None h = refl
HaveNoRows-right As (Some right) h = h right

Keeps-no_rows : (types : List SourceType) → Keeps types (no_rows types)
Keeps-no_rows [] = tt
Keeps-no_rows (t ∷ types) = (record { columns = (IsTyped-empty t.kinds t.signed).rows; sign = (IsTyped-empty t.kinds t.signed).sign }, Keeps-no_rows types)

-- ---- steps on no rows
output-none : (s : Step) (w : Wire) (F : Family) (As : List Dataset) → HaveNoRows F → HaveNoRows As → step_output (operator_of s) w F As ≡ empty
output-none s (Source place) F As none h = none place
output-none s (Of left right) F As none h = ap₂ (operator_of s) (h left) (HaveNoRows-right As right h) ∙ operator-empty s

HaveNoRows-steps : (types : List SourceType) (cs : List (List Kind)) (F : Family) → HaveNoRows F → (ss : List Step) (As : List Dataset) → HaveNoRows As
    → HaveNoRows (evals_after As (map (step_meaning cs) ss) (map (wire_of types) ss) F)
HaveNoRows-steps types cs F none [] As h = h
HaveNoRows-steps types cs F none (s ∷ ss) As h =
    HaveNoRows-steps types cs F none ss (As ++ step_output (operator_of s) (wire_of types s) F As ∷ []) (HaveNoRows-more As _ h (output-none s (wire_of types s) F As none h))

passes-none : (s : Step) (w : Wire) (As : List Dataset) → HaveNoRows As → step_passes (operator_fits s) w As ≡ true
passes-none s (Source place) As h = refl
passes-none s (Of left right) As h = ap₂ (operator_fits s) (h left) (HaveNoRows-right As right h) ∙ fits-empty s

stands_at : (P : Dataset → Dataset → Type 0) (w : Wire) (As : List Dataset) → HaveNoRows As → P empty empty → OfInputs P w As
stands_at P (Source place) As h stands = tt
stands_at P (Of left right) As h stands = subst (λ A. P A (right_dataset As right)) (sym (h left)) (subst (P empty) (sym (HaveNoRows-right As right h)) stands)

module _ (plan : List Step) (types : List SourceType) (kept : IsKept plan types) where
  HaveNoRows-evals : HaveNoRows (evals (plan_meanings plan types) (plan_wires plan types) (no_rows types))
  HaveNoRows-evals = HaveNoRows-steps types (columns plan types) (no_rows types) (HaveNoRows-sources types) plan [] (λ j. refl)

  -- sources without rows fit
  MayStand-none : MayStand plan types (no_rows types)
  MayStand-none =
      let F : Family = no_rows types in
      let As : List Dataset = evals (plan_meanings plan types) (plan_wires plan types) F in
      let in_range : (place : ℕ) → AllInRange (dataset_at F place) = λ place. subst AllInRange (sym (HaveNoRows-sources types place)) AllInRange-empty in
      record {
        keeps = Keeps-no_rows types;
        in_range = in_range;
        fits = misfit-none plan types kept F in_range (λ i. elim (slice_get_cases plan i).1 as (λ _. fits_at (plan_meanings plan types) (plan_wires plan types) F i ≡ true) [
          | inl there ↦
              ap (λ (m : Meaning). step_passes m.fits (wire_at (plan_wires plan types) i) As) (get_or-map_at (step_meaning (columns plan types)) plan i there.0 no_operator there.2)
              ∙ passes-none there.0 (wire_at (plan_wires plan types) i) As HaveNoRows-evals
          | inr past ↦ fits_at-past (plan_meanings plan types) (plan_wires plan types) F i (let size = length-wires plan types kept in let beyond = past.0 in omega arith)
        ]);
      }

  -- fresh nodes and an output without rows stand for sources without rows
  pub PlanStands-fresh : {N : Type 0} (of : N → Standing) (nodes : List N) (out : StoreParts) → AreFresh of nodes (plan_meanings plan types) → ((k : Row) → committed_part out k ≡ empty) → PlanStands of plan types nodes out (no_rows types)
  PlanStands-fresh {N} of nodes out fresh none =
      let ws : List Wire = plan_wires plan types in
      let F : Family = no_rows types in
      let none_evals : HaveNoRows (evals (meanings of nodes) ws F) = subst (λ (ms : List Meaning). HaveNoRows (evals ms ws F)) (sym fresh.same) HaveNoRows-evals in
      record {
        kept = kept;
        same = fresh.same;
        family = MayStand-none;
        held = record {
          steps = λ i n here. stands_at (of n).StandsFor (wire_at ws i) (evals (meanings of nodes) ws F) none_evals (fresh.stand i n here);
          output = λ x. ap (λ A. at A x) (none x ∙ sym (none_evals (length ws - 1)));
        };
      }
