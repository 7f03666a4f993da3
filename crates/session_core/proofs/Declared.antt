-- Parts with one source more.
use Rattle.std.proofs.Common.{◌≡◌, ◌<◌, ℕ, List, [], ◌∷◌, ◌++◌, false, refl, sym, ap, subst, ◌∙◌, arith, length, map, None, ◌||◌, length-append}
use Rattle.std.specs.Prelude.{All, ◌≤◌, Result, Ok, Err, OnErr, OnOk}
use Rattle.std.specs.declared.alloc.AllocError.{AllocError}
use Rattle.plan_model.specs.declared.source_types.SourceType.{SourceType}
use Rattle.session_data.proofs.SourceLemmas.{new_is_sound}
use Rattle.std.specs.List.{IsDistinct, list_any}
use Rattle.std.proofs.lemmas.List.{map-append}
use Rattle.std.proofs.lemmas.List.Elements.{All-push}
use Rattle.std.proofs.lemmas.Map.Keys.{IsDistinct-push}
use Rattle.std.specs.Cmp.Lexicographic.{lists_equiv}
use Rattle.std.proofs.lemmas.Cmp.{nat_eq_equiv}
use Rattle.record_text.specs.Names.{name_eq}
use Rattle.plan_model.specs.Sources.{has_name}
use Rattle.session_data.specs.Held.{HeldSources}
use Rattle.request_machine.specs.Named.{place_named, source_name}
use Rattle.session_core.specs.Parts.{AreSettled}
use Rattle.request_machine.specs.Sound.{IsSoundSource}
use Rattle.request_machine.specs.State.{SourceState, new_of_type, types_of}
use Rattle.session_core.specs.declared.parts.Parts.{Parts}
use Rattle.session_core.proofs.Kept.{AllHeld-settled, AllSettled-declared, AllSound-held}
use Rattle.session_core.proofs.Added.{held_is}
use Rattle.request_machine.proofs.Named.{name_is_new}

-- whether a type has a name is whether its source has
has_name-types : (name : List ℕ) (sources : List SourceState) → has_name (types_of sources) name ≡ list_any (name_eq name) (map source_name sources)
has_name-types name [] = refl
has_name-types name (source ∷ sources) = ap (λ b. name_eq name source.name || b) (has_name-types name sources)

-- a name that no source has is none of their types'
pub fresh-types : (name : List ℕ) (sources : List SourceState) → place_named source_name name sources ≡ None → has_name (types_of sources) name ≡ false
fresh-types name sources none = has_name-types name sources ∙ name_is_new source_name name sources none

-- a name that no source has stays apart from theirs
pub distinct-declared : (sources : List SourceState) (new : SourceState) → IsDistinct name_eq (map source_name sources) → place_named source_name new.name sources ≡ None
    → IsDistinct name_eq (map source_name (sources ++ new ∷ []))
distinct-declared sources new distinct none =
    subst (IsDistinct name_eq) (sym (map-append source_name sources (new ∷ [])))
    (IsDistinct-push (lists_equiv nat_eq_equiv) (map source_name sources) new.name distinct (name_is_new source_name new.name sources none))

module _ (old : Parts) (new : SourceState) (settled : AreSettled old) (few : length old.sources.committed < 16)
    (distinct : IsDistinct name_eq (map source_name (old.sources.committed ++ new ∷ []))) (sound_new : IsSoundSource new) where
  abbrev declared_parts : HeldSources
  declared_parts = record { committed = old.sources.committed ++ new ∷ []; pending = old.sources.committed ++ new ∷ [] }

  all_sound : All IsSoundSource (old.sources.committed ++ new ∷ [])
  all_sound = All-push IsSoundSource old.sources.committed new settled.kept.sound.all_sound sound_new

  -- parts with the source are settled
  pub AreSettled-declared : AreSettled (record old { sources = declared_parts })
  AreSettled-declared =
      let plans = AllSettled-declared old.sources.committed new old.plans.items all_sound settled.plans in
      record {
        kept = record {
          sound = record {
            few = omega (arith, length-append old.sources.committed (new ∷ []), few);
            few_plans = settled.kept.sound.few_plans;
            distinct = distinct;
            distinct_plans = settled.kept.sound.distinct_plans;
            all_sound = all_sound;
            all_plans = AllSound-held (old.sources.committed ++ new ∷ []) old.plans.items (AllHeld-settled _ _ old.plans.items plans);
          };
          names = settled.kept.names;
          names_room = settled.kept.names_room;
          plans_room = settled.kept.plans_room;
        };
        plans = plans;
        none_pending = refl;
      }

-- the source is appended
pub AreSettled-pushed : (old : Parts) (s : HeldSources) (new : SourceState) → AreSettled old → length old.sources.committed < 16
    → place_named source_name new.name old.sources.committed ≡ None → IsSoundSource new
    → s.committed ≡ old.sources.committed ++ new ∷ [] → s.pending ≡ old.sources.pending ++ new ∷ []
    → AreSettled (record old { sources = s })
AreSettled-pushed old s new settled few none sound_new committed pending =
    let distinct = distinct-declared old.sources.committed new settled.kept.sound.distinct none in
    let same = held_is s (old.sources.committed ++ new ∷ []) (old.sources.committed ++ new ∷ []) committed (pending ∙ ap (λ (sources : List SourceState). sources ++ new ∷ []) settled.none_pending) in
    subst (λ (u : HeldSources). AreSettled (record old { sources = u })) (sym same) (AreSettled-declared old new settled few distinct sound_new)

-- the source is appended, or there is no memory for it and nothing has changed
pub AreSettled-declares : (result : Result (Unit {0}) AllocError) (old : Parts) (s : HeldSources) (t : SourceType) (total : ℕ) → AreSettled old → length old.sources.committed < 16
    → place_named source_name t.name old.sources.committed ≡ None → total ≤ 1000000000000000
    → OnOk result (s.committed ≡ old.sources.committed ++ new_of_type t total ∷ []) → OnOk result (s.pending ≡ old.sources.pending ++ new_of_type t total ∷ [])
    → OnErr result (s ≡ old.sources) → AreSettled (record old { sources = s })
AreSettled-declares (Ok done) old s t total settled few none within committed pending same =
    AreSettled-pushed old s (new_of_type t total) settled few none (new_is_sound t.name t.kinds t.signed total within) committed pending
AreSettled-declares (Err e) old s t total settled few none within committed pending same =
    subst (λ (u : HeldSources). AreSettled (record old { sources = u })) (sym same) settled
