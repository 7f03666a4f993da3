-- The nodes of a plan, made step by step.
use Rattle.std.specs.Prelude.{◌≡◌, ℕ, ◌+◌, ◌≤◌, nat_le, false, true, List, [], ◌∷◌, ◌++◌, length, map, slice_get, slice_index_or, Some}
use Rattle.std.proofs.Common.{refl, sym, ap, subst, ◌∙◌, take}
use Rattle.std.proofs.lemmas.List.{map-append, take_all}
use Rattle.datasets.specs.Dataset.{empty}
use Rattle.plan_model.proofs.Plans.{step_of_plan}
use Rattle.plan_model.proofs.StepLaws.{inputs_are_earlier}
use Rattle.plan_model.specs.Acceptance.{is_narrow}
use Rattle.plan_model.specs.Evaluation.{operator_of}
use Rattle.plan_model.specs.Fits.{operator_fits}
use Rattle.plan_model.specs.Inputs.{of_left, of_right}
use Rattle.plan_model.specs.Sizes.{max_width}
use Rattle.plan_model.specs.Types.{columns, columns_step, output_columns}
use Rattle.plan_model.specs.declared.source_types.SourceType.{SourceType}
use Rattle.plan_model.specs.declared.step.Step.{Step}
use Rattle.record_text.proofs.Lists.{map-front_more}
use Rattle.record_text.specs.declared.kinds.Kind.{Kind}
use Rattle.weighted_set.specs.Standing.{Meaning, Standing}
use Rattle.flow_graph.proofs.Fronts.{length-made, made-more, of_inputs-front}
use Rattle.flow_graph.proofs.Lists.{each-more}
use Rattle.flow_graph.specs.Fresh.{AreFresh, IsFresh}
use Rattle.flow_graph.specs.Plans.{IsKept}
use Rattle.flow_graph.specs.Steps.{plan_meanings, step_meaning, step_work, takes_inputs}

-- a step is as narrow as its inputs make it; a source has no inputs
pub narrow-of_steps : (types : List SourceType) (s : Step) (cs : List (List Kind)) → is_narrow types s cs ≡ true → nat_le (length (output_columns s (of_left [] cs s) (of_right [] cs s))) max_width ≡ true
narrow-of_steps types (Step.Source name) cs narrow = refl
narrow-of_steps types s cs narrow = narrow

-- what a step means, from the columns of its inputs
meaning_by : Step → List (List Kind) → Meaning
meaning_by s ins = record {
  takes = takes_inputs s (slice_index_or ins 0 []) (slice_index_or ins 1 []);
  fits = operator_fits s;
  output = operator_of s;
  work = step_work s;
}

-- the nodes and the columns of the first steps
pub record AreBuilt {N : Type 0} (of : N → Standing) (nodes : List N) (cs : List (List Kind)) (plan : List Step) (types : List SourceType) (count : ℕ) : Type 0 where
  pub of_columns : cs ≡ columns (take count plan) types
  pub fresh : AreFresh of nodes (map (step_meaning (columns plan types)) (take count plan))

module _ {N : Type 0} (of : N → Standing) (plan : List Step) (types : List SourceType) (kept : IsKept plan types) where
  pub AreBuilt-start : (nodes : List N) (cs : List (List Kind)) → nodes ≡ [] → cs ≡ [] → AreBuilt of nodes cs plan types 0
  AreBuilt-start nodes cs a b =
      subst (λ ns. AreBuilt of ns cs plan types 0) (sym a)
      (record { of_columns = b; fresh = record { same = refl; stand = λ i n at. cc; idle = λ i n at. cc } })

  module _ (nodes : List N) (cs : List (List Kind)) (count : ℕ) (built : AreBuilt of nodes cs plan types count) (s : Step) (at : slice_get plan count ≡ Some s) where
    pub length-columns : length cs ≡ count
    length-columns = ap length built.of_columns ∙ length-made (columns_step types) plan count s at

    -- what the step means with the columns so far it means with those of the whole plan
    meaning-whole : step_meaning cs s ≡ step_meaning (columns plan types) s
    unfolding meaning_by
    meaning-whole =
        ap (λ ds. step_meaning ds s) built.of_columns
        ∙ sym (ap (meaning_by s) (of_inputs-front (columns_step types) plan count s at [] (inputs_are_earlier count s (step_of_plan plan count s at kept.steps))))

    pub AreBuilt-more : (n : N) (new : List N) (lent new_cs : List (List Kind)) (cols : List Kind) → lent ≡ cs → IsFresh (of n) (step_meaning lent s) → new ≡ nodes ++ n ∷ [] → cols ≡ columns_step types s cs → new_cs ≡ cs ++ cols ∷ []
        → AreBuilt of new new_cs plan types (count + 1)
    AreBuilt-more n new lent new_cs cols same fresh is has put =
        let ms : List Step → List Meaning = λ ss. map (step_meaning (columns plan types)) ss in
        let means : (of n).meaning ≡ step_meaning (columns plan types) s = fresh.meaning ∙ ap (λ ds. step_meaning ds s) same ∙ meaning-whole in
        record {
          of_columns = put ∙ ap (λ c. cs ++ c ∷ []) has ∙ made-more (columns_step types) plan count s at cs built.of_columns;
          fresh = subst (λ ns. AreFresh of ns (ms (take (count + 1) plan))) (sym is) (record {
            same =
                map-append (λ n. (of n).meaning) nodes (n ∷ []) ∙ ap (λ (xs : List Meaning). xs ++ (of n).meaning ∷ []) built.fresh.same ∙ ap (λ (m : Meaning). ms (take count plan) ++ m ∷ []) means
                ∙ sym (map-front_more (step_meaning (columns plan types)) plan count s at);
            stand = each-more (λ i m. (of m).StandsFor empty empty) nodes (length nodes) n refl built.fresh.stand fresh.stands;
            idle = each-more (λ i m. (of m).is_pending ≡ false) nodes (length nodes) n refl built.fresh.idle fresh.idle;
          });
        }

  pub AreFresh-built : (nodes : List N) (cs : List (List Kind)) (count : ℕ) → AreBuilt of nodes cs plan types count → length plan ≤ count → AreFresh of nodes (plan_meanings plan types)
  AreFresh-built nodes cs count built all = subst (λ ss. AreFresh of nodes (map (step_meaning (columns plan types)) ss)) (take_all count plan all) built.fresh
