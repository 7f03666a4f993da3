-- What is kept of a plan, when a source is declared and when sources change.
use Rattle.std.proofs.Common.{◌≡◌, ℕ, List, [], ◌∷◌, ◌++◌, refl, sym, ap, subst, ◌∙◌, arith, length, length-append, map}
use Rattle.std.specs.Prelude.{All, ◌≤◌, ◌+◌, IsTrue}
use Rattle.std.specs.List.{IsDistinct}
use Rattle.std.proofs.lemmas.List.Elements.{All-map, All-weaker}
use Rattle.std.proofs.lemmas.List.{length-take, map-append, take-append-le}
use lib.ListN.{length-map}
use Rattle.record_text.specs.Names.{name_eq}
use Rattle.datasets.specs.Dataset.{Dataset}
use Rattle.plan_model.specs.Evaluation.{Family, dataset_at, last_or}
use Rattle.plan_model.specs.Types.{Keeps}
use Rattle.plan_model.specs.declared.source_types.SourceType.{SourceType}
use Rattle.weighted_set.specs.Held.{AllInRange}
use Rattle.plan_model.specs.Limits.{is_plan}
use Rattle.session_data.specs.Flow.{StandsFor}
use Rattle.request_machine.specs.Named.{source_name}
use Rattle.session_data.specs.Planned.{Holds, IsPrepared, IsSettled, plan_state, plan_states}
use Rattle.request_machine.specs.Sound.{IsSoundPlan, IsSoundSource, Sound}
use Rattle.request_machine.specs.State.{SourceState, State, family_of, type_of, types_of}
use Rattle.session_data.specs.declared.plans.Planned.{Planned}
use Rattle.plan_model.proofs.AcceptedLater.{Accepts-extended, columns-extended, known-accepted}
use Rattle.plan_model.proofs.Extended.{misfit-extended}
use Rattle.session_data.proofs.UsedLemmas.{uses_of-more}
use Rattle.session_data.proofs.Typed.{AllInRange-sound, Keeps-sound}

-- ---- one source more

module _ (types : List SourceType) (t : SourceType) (F : Family) (A : Dataset) (same : length F ≡ length types)
    (keeps : Keeps (types ++ t ∷ []) (F ++ A ∷ [])) (in_range : (s : ℕ) → AllInRange (dataset_at (F ++ A ∷ []) s)) where
  -- the graph of a plan, which was built on the first sources, stands for them as before
  pub IsSettled-extended : (planned : Planned) → IsSettled types F planned → IsSettled (types ++ t ∷ []) (F ++ A ∷ []) planned
  IsSettled-extended planned h =
      let n = length planned.graph.types in
      let known = known-accepted types t planned.plan h.holds.accepted in
      let few : n ≤ length types = let front = length-take n types in let all = ap length h.holds.first in omega arith in
      record {
        holds = record {
          accepted = Accepts-extended types t planned.plan h.holds.accepted;
          fits = misfit-extended types t F A same planned.plan known ∙ h.holds.fits;
          size = length-append F (A ∷ []) ∙ ap (λ k. k + 1) same ∙ sym (length-append types (t ∷ []));
          same = h.holds.same;
          first = take-append-le n types (t ∷ []) few ∙ h.holds.first;
          stands = subst (StandsFor planned.graph) (sym (take-append-le n F (A ∷ []) (omega arith))) h.holds.stands;
          cols = h.holds.cols ∙ sym (ap (last_or []) (columns-extended types t planned.plan known));
          uses = h.holds.uses ∙ sym (uses_of-more types t planned.plan h.holds.accepted);
        };
        idle = h.idle;
      }

-- the same, for the plans of a state to which a source is added
pub AllSettled-declared : (sources : List SourceState) (new : SourceState) (plans : List Planned) → All IsSoundSource (sources ++ new ∷ [])
    → All (IsSettled (types_of sources) (family_of sources)) plans
    → All (IsSettled (types_of (sources ++ new ∷ [])) (family_of (sources ++ new ∷ []))) plans
AllSettled-declared sources new plans sound all =
    let types_are = map-append type_of sources (new ∷ []) in
    let family_is = map-append (λ (source : SourceState). source.rows) sources (new ∷ []) in
    let same = length-map sources (λ (source : SourceState). source.rows) ∙ sym (length-map sources type_of) in
    let keeps = subst (λ F. Keeps (types_of sources ++ type_of new ∷ []) F) family_is (subst (λ types. Keeps types (family_of (sources ++ new ∷ []))) types_are (Keeps-sound (sources ++ new ∷ []) sound)) in
    let in_range = subst (λ F. (s : ℕ) → AllInRange (dataset_at F s)) family_is (AllInRange-sound (sources ++ new ∷ []) sound) in
    subst (λ F. All (IsSettled (types_of (sources ++ new ∷ [])) F) plans) (sym family_is)
    (subst (λ types. All (IsSettled types (family_of sources ++ new.rows ∷ [])) plans) (sym types_are)
    (All-weaker _ _ (IsSettled-extended (types_of sources) (type_of new) (family_of sources) new.rows same keeps in_range) plans all))

-- ---- soundness

IsSoundPlan-held : (sources : List SourceState) (planned : Planned) → Holds (types_of sources) (family_of sources) planned → IsSoundPlan sources (plan_state planned)
IsSoundPlan-held sources planned h = record {
  limits = subst (λ plan. IsTrue (is_plan plan)) h.same h.stands.plan.kept.steps;
  accepted = h.accepted;
  fits = h.fits;
}

-- plans whose graphs stand for the sources are sound
pub AllSound-held : (sources : List SourceState) (plans : List Planned) → All (Holds (types_of sources) (family_of sources)) plans → All (IsSoundPlan sources) (plan_states plans)
AllSound-held sources plans all = All-map (IsSoundPlan sources) plan_state plans (All-weaker _ _ (IsSoundPlan-held sources) plans all)

pub AllHeld-settled : (types : List SourceType) (F : Family) (plans : List Planned) → All (IsSettled types F) plans → All (Holds types F) plans
AllHeld-settled types F plans all = All-weaker (IsSettled types F) (Holds types F) (λ planned h. h.holds) plans all

pub AllHeld-prepared : (types : List SourceType) (F G : Family) (plans : List Planned) → All (IsPrepared types F G) plans → All (Holds types F) plans
AllHeld-prepared types F G plans all = All-weaker (IsPrepared types F G) (Holds types F) (λ planned h. h.holds) plans all

names_by_types : (sources : List SourceState) → map source_name sources ≡ map (λ (t : SourceType). t.name) (types_of sources)
names_by_types [] = refl
names_by_types (source ∷ sources) = ap (λ names. source.name ∷ names) (names_by_types sources)

-- sources of the same types have the same names, and are as many
pub names_of-types : (sources others : List SourceState) → types_of sources ≡ types_of others → map source_name sources ≡ map source_name others
names_of-types sources others same = names_by_types sources ∙ ap (map (λ (t : SourceType). t.name)) same ∙ sym (names_by_types others)

pub length-types : (sources others : List SourceState) → types_of sources ≡ types_of others → length sources ≡ length others
length-types sources others same = sym (length-map sources type_of) ∙ ap length same ∙ length-map others type_of

-- the state with other sources of the same types, which the plans fit
pub Sound-turned : (state : State) (sources : List SourceState) → Sound state → types_of sources ≡ types_of state.sources → All IsSoundSource sources
    → All (IsSoundPlan sources) state.plans → Sound (record state { sources = sources })
Sound-turned state sources sound same all_sound all_plans = record {
  few = subst (λ n. n ≤ 16) (sym (length-types sources state.sources same)) sound.few;
  few_plans = sound.few_plans;
  distinct = subst (IsDistinct name_eq) (sym (names_of-types sources state.sources same)) sound.distinct;
  distinct_plans = sound.distinct_plans;
  all_sound = all_sound;
  all_plans = all_plans;
}
