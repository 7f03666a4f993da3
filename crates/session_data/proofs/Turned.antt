-- Sources to one of which weights are added.
use Rattle.std.proofs.Common.{◌≡◌, ◌≢◌, ◌<◌, ℕ, zero, suc, List, [], ◌∷◌, refl, sym, ap, subst, ◌∙◌, arith, length, set, Some}
use Rattle.std.specs.Prelude.{All, slice_get}
use Rattle.std.proofs.lemmas.List.Elements.{All-get_or, All-set}
use Rattle.std.proofs.lemmas.Option.{get_or_from_slice_get, slice_get_within}
use lib.Seq.{map-set_same}
use lib.ListN.{length-map}
use Rattle.record_text.specs.KindLists.{kinds_of}
use Rattle.datasets.specs.Dataset.{Dataset}
use Rattle.plan_model.specs.declared.source_types.SourceType.{SourceType}
use Rattle.plan_model.specs.Evaluation.{dataset_at}
use Rattle.plan_model.specs.Types.{Keeps}
use Rattle.weighted_set.specs.Adding.{AreChangesOfAdding}
use Rattle.weighted_set.specs.Changes.{IsChangeList}
use Rattle.weighted_set.specs.declared.weighted.Change.{Change}
use Rattle.weighted_set.specs.declared.weighted.Weighted.{Weighted}
use Rattle.session_data.specs.Flow.{TurnsInto}
use Rattle.request_machine.specs.Updates.{with_weights}
use Rattle.session_data.specs.Held.{IsTurn}
use Rattle.request_machine.specs.Sound.{IsSoundSource}
use Rattle.request_machine.specs.State.{SourceState, family_of, type_of, types_of}
use Rattle.session_data.proofs.SourceLemmas.{updated_is_sound}
use Rattle.session_data.proofs.Typed.{Keeps-sound}

dataset_at-here : (sources : List SourceState) (i : ℕ) (s : SourceState) → slice_get sources i ≡ Some s → dataset_at (family_of sources) i ≡ s.rows
dataset_at-here [] i s e = cc
dataset_at-here (source ∷ sources) zero s e = let same : source ≡ s = cc in ap (λ (u : SourceState). u.rows) same
dataset_at-here (source ∷ sources) (suc i) s e = dataset_at-here sources i s e

dataset_at-set : (sources : List SourceState) (i : ℕ) (s : SourceState) → i < length sources → dataset_at (family_of (set sources i s)) i ≡ s.rows
dataset_at-set [] i s lt = absurd (omega (arith, lt))
dataset_at-set (source ∷ sources) zero s lt = refl
dataset_at-set (source ∷ sources) (suc i) s lt = dataset_at-set sources i s (omega (arith, lt))

dataset_at-other : (sources : List SourceState) (i k : ℕ) (s : SourceState) → k ≢ i → dataset_at (family_of (set sources i s)) k ≡ dataset_at (family_of sources) k
dataset_at-other [] i k s ne = refl
dataset_at-other (source ∷ sources) zero zero s ne = absurd (ne refl)
dataset_at-other (source ∷ sources) zero (suc k) s ne = refl
dataset_at-other (source ∷ sources) (suc i) zero s ne = refl
dataset_at-other (source ∷ sources) (suc i) (suc k) s ne = dataset_at-other sources i k s (λ e. ne (ap suc e))

module _ (sources : List SourceState) (at : ℕ) (source : SourceState) (added : List Weighted) (changes : List Change)
    (here : slice_get sources at ≡ Some source) (sound : All IsSoundSource sources)
    (kinds : All (λ (one : Weighted). kinds_of one.row ≡ source.kinds) added)
    (adding : AreChangesOfAdding source.rows added source.signed changes) where
  abbrev turned : List SourceState
  turned = set sources at (with_weights source added)

  lt : at < length sources
  lt = slice_get_within sources at source here

  same_types : types_of turned ≡ types_of sources
  same_types =
      map-set_same type_of sources at (with_weights source added) source
      (sym (ap type_of (get_or_from_slice_get sources at source source here)))

  all_sound : All IsSoundSource turned
  all_sound =
      let sound_here = subst IsSoundSource (get_or_from_slice_get sources at source source here) (All-get_or IsSoundSource sources at source lt sound) in
      All-set IsSoundSource sources at (with_weights source added) (updated_is_sound source added sound_here kinds adding.in_range adding.allowed) sound

  -- the sources with the weights added are sound and of the same types
  pub IsTurn-added : IsTurn sources turned
  IsTurn-added = record { types = same_types; sound = all_sound }

  -- and the changes turn the family into theirs
  pub TurnsInto-added : TurnsInto (types_of sources) at changes (family_of sources) (family_of turned)
  TurnsInto-added = record {
    within = subst (λ n. at < n) (sym (length-map sources type_of)) lt;
    changed =
        subst (λ A. IsChangeList changes A (dataset_at (family_of turned) at)) (sym (dataset_at-here sources at source here))
        (subst (λ B. IsChangeList changes source.rows B) (sym (dataset_at-set sources at (with_weights source added) lt)) adding.lead_there);
    others = λ k ne. dataset_at-other sources at k (with_weights source added) ne;
    keeps = subst (λ types. Keeps types (family_of turned)) same_types (Keeps-sound turned all_sound);
  }

-- the type of the source at a place
pub type_here : (sources : List SourceState) (i : ℕ) (s : SourceState) (t : SourceType) → slice_get sources i ≡ Some s → slice_get (types_of sources) i ≡ Some t → type_of s ≡ t
type_here [] i s t e f = cc
type_here (source ∷ sources) zero s t e f = let same : source ≡ s = cc in let typed : type_of source ≡ t = cc in ap type_of (sym same) ∙ typed
type_here (source ∷ sources) (suc i) s t e f = type_here sources i s t e f

-- the rows of the source at a place
pub rows_here : (sources : List SourceState) (i : ℕ) (s : SourceState) (A : Dataset) → slice_get sources i ≡ Some s → slice_get (family_of sources) i ≡ Some A → s.rows ≡ A
rows_here [] i s A e f = cc
rows_here (source ∷ sources) zero s A e f = let same : source ≡ s = cc in let held : source.rows ≡ A = cc in ap (λ (u : SourceState). u.rows) (sym same) ∙ held
rows_here (source ∷ sources) (suc i) s A e f = rows_here sources i s A e f

-- some source stands at a place within the list
pub somewhere : (sources : List SourceState) (i : ℕ) → i < length sources → (s : SourceState) × (slice_get sources i ≡ Some s)
somewhere [] i lt = absurd (omega (arith, lt))
somewhere (source ∷ sources) zero lt = (source, refl)
somewhere (source ∷ sources) (suc i) lt = somewhere sources i (omega (arith, lt))
