-- Steps are read behind those before them, each by its place.
use Rattle.std.proofs.Common.{◌≡◌, ◌+◌, List, [], ◌∷◌, ◌++◌, length, Result, Ok, Err, refl, sym, ap, ◌∙◌, append_assoc, append-nil, length-append}
use Rattle.serde_json.specs.Data.{Data}
use Rattle.json_fields.proofs.Members.{with_front}
use Rattle.json_fields.specs.Walk.{◌>>=◌, each}
use Rattle.plan_model.specs.declared.step.Step.{Step}
use Rattle.plan_reader.specs.Plans.{steps_after}
use Rattle.plan_reader.specs.Steps.{step_at}

-- one more in front
with_front-next : {A E : Type 0} (front : List A) (x : A) (r : Result (List A) E)
    → with_front front (r >>= λ xs. Ok (x ∷ xs)) ≡ with_front (front ++ x ∷ []) r
with_front-next front x (Ok xs) = ap Ok (sym (append_assoc front (x ∷ []) xs))
with_front-next front x (Err e) = refl

-- behind those that were read, the others are walked by their places
steps_after-each : (read : List Step) (ds : List Data) → steps_after read ds ≡ with_front read (each step_at (length read) ds)
steps_after-each read [] = ap Ok (sym (append-nil read))
steps_after-each read (d ∷ ds) =
    elim (step_at (length read) d)
    as (λ r. (r >>= λ s. steps_after (read ++ s ∷ []) ds) ≡ with_front read (r >>= λ s. each step_at (length read + 1) ds >>= λ ss. Ok (s ∷ ss))) [
      | Ok s ↦
          let len : length (read ++ s ∷ []) ≡ length read + 1 = length-append read (s ∷ []) in
          steps_after-each (read ++ s ∷ []) ds ∙ ap (λ at. with_front (read ++ s ∷ []) (each step_at at ds)) len
          ∙ sym (with_front-next read s (each step_at (length read + 1) ds))
      | Err e ↦ refl
    ]

-- nothing in front changes nothing
with_none : {A E : Type 0} (r : Result (List A) E) → with_front [] r ≡ r
with_none (Ok xs) = refl
with_none (Err e) = refl

-- the steps of a whole plan
pub steps_after-none : (ds : List Data) → steps_after [] ds ≡ each step_at 0 ds
steps_after-none ds = steps_after-each [] ds ∙ with_none (each step_at 0 ds)
