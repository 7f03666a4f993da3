-- A plan that is checked step by step, as far as the check has come.
use Rattle.std.specs.Prelude.{◌≡◌, ℕ, ◌+◌, ◌<◌, ◌≤◌, Bool, true, List, [], ◌∷◌, ◌++◌, length, slice_get, Some, None}
use Rattle.std.specs.List.{list_all}
use Rattle.std.proofs.Common.{refl, sym, ap, ap₂, ◌∙◌, subst, arith, take, drop, length-take-le}
use Rattle.std.proofs.Math.ListN.{drop_of_length-le}
use Rattle.std.proofs.lemmas.Bool.{and_from}
use Rattle.std.proofs.lemmas.List.{take_all}
use Rattle.std.proofs.lemmas.List.Folds.{list_all-append}
use Rattle.std.proofs.lemmas.Option.{slice_get_within}
use Rattle.record_text.specs.declared.kinds.Kind.{Kind}
use Rattle.plan_model.specs.declared.plan.What.{What}
use Rattle.plan_model.specs.declared.source_types.SourceType.{SourceType}
use Rattle.plan_model.specs.declared.step.Step.{Step}
use Rattle.plan_model.specs.Acceptance.{Accepts, are_few, fault_after, fault_of_step, fault_or, first_fault, plan_fault_of}
use Rattle.plan_model.specs.Evaluation.{last_or, step_by_step}
use Rattle.plan_model.specs.Limits.{is_plan, is_step}
use Rattle.plan_model.specs.Types.{columns, columns_step, sign_step, signs}
use Rattle.plan_model.proofs.Accepted.{Passes-first_fault}
use Rattle.plan_model.proofs.StepByStep.{length-step_by_step_after, step_by_step_after-snoc}
use Rattle.plan_checker.specs.Checked.{CheckedPlan, checked_of}
use Rattle.plan_checker.specs.Steps.{row_step, rows_of_steps}
use Rattle.record_text.proofs.Lists.{front_more, rest_from}
use Rattle.plan_checker.proofs.Parts.{some_steps, step_of_plan}
use Rattle.plan_checker.proofs.Rows.{first_fault-of_step, last_counts}

-- the steps before a place have no fault, and these are their columns, their signs and their counts by source
pub record IsReached (types : List SourceType) (p : List Step) (place : ℕ) (cs : List (List Kind)) (bs : List Bool) (ns : List (List ℕ)) : Type 0 where
  pub columns : cs ≡ columns (take place p) types
  pub signs : bs ≡ signs (take place p) types
  pub counts : ns ≡ rows_of_steps (take place p) types
  pub few : list_all are_few ns ≡ true
  pub rest : fault_after types (take place p) (drop place p) ≡ plan_fault_of p types

pub reached_start : (types : List SourceType) (p : List Step) → IsReached types p 0 [] [] []
reached_start types p = record { columns = refl; signs = refl; counts = refl; few = refl; rest = refl }

below-le : {m n : ℕ} → m < n → m ≤ n
below-le h = omega arith

-- what is made of one step more
made_more : {X : Type 0} (f : Step → List X → X) (p : List Step) (place : ℕ) (s : Step) (made new : List X) → slice_get p place ≡ Some s →
    made ≡ step_by_step f (take place p) → new ≡ made ++ f s made ∷ [] → new ≡ step_by_step f (take (place + 1) p)
made_more f p place s made new at is next =
    next ∙ ap (λ m. m ++ f s m ∷ []) is ∙ sym (ap (step_by_step f) (front_more p place s at) ∙ step_by_step_after-snoc f [] (take place p) s)

made_length : {X : Type 0} (f : Step → List X → X) (p : List Step) (place : ℕ) (made : List X) → place ≤ length p → made ≡ step_by_step f (take place p) → length made ≡ place
made_length f p place made inside is = ap length is ∙ length-step_by_step_after f [] (take place p) ∙ omega (arith, length-take-le place p inside)

module _ (types : List SourceType) (p : List Step) (place : ℕ) (cs : List (List Kind)) (bs : List Bool) (ns : List (List ℕ)) (reached : IsReached types p place cs bs ns) where
  -- there is one of each for each step
  pub length-columns : place ≤ length p → length cs ≡ place
  length-columns inside = made_length (columns_step types) p place cs inside reached.columns

  pub length-signs : place ≤ length p → length bs ≡ place
  length-signs inside = made_length (sign_step types) p place bs inside reached.signs

  pub length-counts : place ≤ length p → length ns ≡ place
  length-counts inside = made_length (row_step types) p place ns inside reached.counts

  -- all steps are passed
  pub reached_end : length p ≤ place → Accepts p types
  reached_end past = sym reached.rest ∙ ap (fault_after types (take place p)) (drop_of_length-le p past)

  pub made_some : place ≤ length p → length p ≤ place → is_plan p ≡ true → (0 < length cs) × (0 < length bs) × (0 < length ns)
  made_some inside past plan =
      let some = some_steps p plan in
      (omega (arith, some, length-columns inside), omega (arith, some, length-signs inside), omega (arith, some, length-counts inside))

  -- what is made of the last step is told of the plan
  pub checked_end : (checked : CheckedPlan) → length p ≤ place → is_plan p ≡ true → checked.columns ≡ last_or [] cs → checked.sign ≡ last_or true bs → checked.uses ≡ last_or [] ns →
      checked ≡ checked_of p types
  checked_end checked past plan c b n =
      let told : List Kind → Bool → List ℕ → CheckedPlan = λ c b n. record { columns = c; sign = b; uses = n } in
      let whole = take_all place p past in
      let columns_are = c ∙ ap (last_or []) (reached.columns ∙ ap (λ q. columns q types) whole) in
      let sign_is = b ∙ ap (last_or true) (reached.signs ∙ ap (λ q. signs q types) whole) in
      let uses_are = n ∙ ap (last_or []) (reached.counts ∙ ap (λ q. rows_of_steps q types) whole) ∙ last_counts types p (some_steps p plan) in
      ap₂ (λ c b. told c b checked.uses) columns_are sign_is ∙ ap (told (last_or [] (columns p types)) (last_or true (signs p types))) uses_are

  module _ (s : Step) (at : slice_get p place ≡ Some s) where
    -- the step is one of a plan at the number of these
    pub step_after_columns : is_plan p ≡ true → is_step (length cs) s ≡ true
    step_after_columns plan = subst (λ n. is_step n s ≡ true) (sym (length-columns (below-le (slice_get_within p place s at)))) (step_of_plan p place s at plan)

    pub step_after_signs : is_plan p ≡ true → is_step (length bs) s ≡ true
    step_after_signs plan = subst (λ n. is_step n s ≡ true) (sym (length-signs (below-le (slice_get_within p place s at)))) (step_of_plan p place s at plan)

    pub step_after_counts : is_plan p ≡ true → is_step (length ns) s ≡ true
    step_after_counts plan = subst (λ n. is_step n s ≡ true) (sym (length-counts (below-le (slice_get_within p place s at)))) (step_of_plan p place s at plan)

    fault_here : (counts : List ℕ) → counts ≡ row_step types s ns → first_fault types s cs bs counts ≡ fault_of_step types (take place p) s
    fault_here counts is =
        ap (first_fault types s cs bs) (is ∙ ap (row_step types s) reached.counts)
        ∙ ap₂ (λ c b. first_fault types s c b (row_step types s (rows_of_steps (take place p) types))) reached.columns reached.signs ∙ first_fault-of_step types (take place p) s

    from_here : fault_or (length (take place p)) (fault_of_step types (take place p) s) (fault_after types (take place p ++ s ∷ []) (drop (place + 1) p)) ≡ plan_fault_of p types
    from_here = sym (ap (fault_after types (take place p)) (rest_from p place s at)) ∙ reached.rest

    -- the step's fault is the plan's
    pub reached_fault : (counts : List ℕ) (what : What) → counts ≡ row_step types s ns → first_fault types s cs bs counts ≡ Some what →
        plan_fault_of p types ≡ Some (record { step = place; what = what })
    reached_fault counts what is fault =
        let inside = slice_get_within p place s at in
        let next = fault_after types (take place p ++ s ∷ []) (drop (place + 1) p) in
        sym from_here ∙ ap₂ (λ n o. fault_or n o next) (length-take-le place p (below-le inside)) (sym (fault_here counts is) ∙ fault)

    -- the step has no fault
    pub reached_more : (counts : List ℕ) (cs' : List (List Kind)) (bs' : List Bool) (ns' : List (List ℕ)) → counts ≡ row_step types s ns →
        first_fault types s cs bs counts ≡ None → cs' ≡ cs ++ columns_step types s cs ∷ [] → bs' ≡ bs ++ sign_step types s bs ∷ [] → ns' ≡ ns ++ counts ∷ [] →
        IsReached types p (place + 1) cs' bs' ns'
    reached_more counts cs' bs' ns' is none c b n =
        let none_here = sym (fault_here counts is) ∙ none in
        let next = λ (before : List Step). fault_after types before (drop (place + 1) p) in
        record {
          columns = made_more (columns_step types) p place s cs cs' at reached.columns c;
          signs = made_more (sign_step types) p place s bs bs' at reached.signs b;
          counts = made_more (row_step types) p place s ns ns' at reached.counts (n ∙ ap (λ row. ns ++ row ∷ []) is);
          few = ap (list_all are_few) n ∙ list_all-append are_few ns (counts ∷ []) ∙ and_from _ _ reached.few (and_from _ _ ((Passes-first_fault types s cs bs counts none).few_uses) refl);
          rest = ap next (front_more p place s at) ∙ sym (ap (λ o. fault_or (length (take place p)) o (next (take place p ++ s ∷ []))) none_here) ∙ from_here;
        }
