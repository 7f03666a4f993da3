-- A plan on more sources than its graph was built on.
use Rattle.std.proofs.Common.{◌≡◌, ◌≢◌, ◌<◌, ◌≤◌, ℕ, zero, suc, ◌+◌, List, [], ◌∷◌, ◌++◌, true, refl, sym, ap, ap₂, subst, ◌∙◌, arith, drop, length, min, ◌-◌, length-append, length-drop, take, Option}
use Rattle.std.specs.List.{AllByRecursion, position_or_len}
use Rattle.std.specs.Option.{unwrap_or}
use Rattle.std.specs.Prelude.{option_map}
use Rattle.std.proofs.lemmas.List.{append-nil, append_assoc, get_or-take, get_or_append_left, length-take, take-append-drop}
use Rattle.record_text.specs.Names.{name_eq}
use Rattle.datasets.specs.Dataset.{Dataset, empty}
use Rattle.plan_model.specs.Acceptance.{Accepts, knows_source}
use Rattle.plan_model.specs.Evaluation.{Family, dataset_at, eval, eval_step, evals, last_or, left_dataset, operator_of, right_dataset}
use Rattle.plan_model.specs.Fits.{misfit}
use Rattle.plan_model.specs.Types.{Keeps}
use Rattle.plan_model.specs.declared.source_types.SourceType.{SourceType}
use Rattle.plan_model.specs.declared.step.Step.{Step}
use Rattle.plan_model.proofs.AcceptedLater.{Accepts-extended, known-accepted}
use Rattle.plan_model.proofs.Extended.{misfit-extended, place-known, step_by_step-agree}
use Rattle.weighted_set.specs.Changes.{IsChangeList}
use Rattle.weighted_set.specs.declared.weighted.Change.{Change}
use Rattle.session_data.specs.Flow.{TurnsInto}

-- ---- what sources that are declared later change: nothing
module _ (types : List SourceType) (t : SourceType) (F : Family) (A : Dataset) (same : length F ≡ length types) where
  pub left_dataset-more : (s : Step) (made : List Dataset) → knows_source types s ≡ true → left_dataset (types ++ t ∷ []) (F ++ A ∷ []) made s ≡ left_dataset types F made s
  left_dataset-more (Step.Source name) made e =
      let k = place-known (λ u. name_eq name u.name) (t ∷ []) types e in
      let i = position_or_len (λ (u : SourceType). name_eq name u.name) types in
      ap (λ place. unwrap_or (option_map (dataset_at (F ++ A ∷ [])) place) empty) k.0
      ∙ get_or_append_left F (A ∷ []) empty i (omega (arith, k.2, same))
      ∙ sym (ap (λ place. unwrap_or (option_map (dataset_at F) place) empty) k.1)
  left_dataset-more s made e = refl

  pub evals-extended : (p : List Step) → AllByRecursion (λ s. knows_source types s ≡ true) p → evals p (types ++ t ∷ []) (F ++ A ∷ []) ≡ evals p types F
  evals-extended p known =
      step_by_step-agree (eval_step (types ++ t ∷ []) (F ++ A ∷ [])) (eval_step types F) (λ s. knows_source types s ≡ true)
      (λ s made e. ap (λ left. operator_of s left (right_dataset made s)) (left_dataset-more s made e)) [] p known

pub same_snoc : {X Y : Type 0} (xs : List X) (ys : List Y) (x : X) (y : Y) → length xs ≡ length ys → length (xs ++ x ∷ []) ≡ length (ys ++ y ∷ [])
same_snoc xs ys x y same = length-append xs (x ∷ []) ∙ ap (λ n. n + 1) same ∙ sym (length-append ys (y ∷ []))

module _ (plan : List Step) where
  misfit-later : (types later : List SourceType) (F G : Family) → length F ≡ length types → length G ≡ length later → Accepts plan types → misfit plan (types ++ later) (F ++ G) ≡ misfit plan types F
  misfit-later types [] F [] same size accepted = ap₂ (misfit plan) (append-nil types) (append-nil F)
  misfit-later types [] F (A ∷ G) same size accepted = absurd (omega arith)
  misfit-later types (t ∷ later) F [] same size accepted = absurd (omega arith)
  misfit-later types (t ∷ later) F (A ∷ G) same size accepted =
      ap₂ (misfit plan) (sym (append_assoc types (t ∷ []) later)) (sym (append_assoc F (A ∷ []) G))
      ∙ misfit-later (types ++ t ∷ []) later (F ++ A ∷ []) G (same_snoc F types A t same) (omega arith) (Accepts-extended types t plan accepted)
      ∙ misfit-extended types t F A same plan (known-accepted types t plan accepted)

  evals-later : (types later : List SourceType) (F G : Family) → length F ≡ length types → length G ≡ length later → Accepts plan types → evals plan (types ++ later) (F ++ G) ≡ evals plan types F
  evals-later types [] F [] same size accepted = ap₂ (evals plan) (append-nil types) (append-nil F)
  evals-later types [] F (A ∷ G) same size accepted = absurd (omega arith)
  evals-later types (t ∷ later) F [] same size accepted = absurd (omega arith)
  evals-later types (t ∷ later) F (A ∷ G) same size accepted =
      ap₂ (evals plan) (sym (append_assoc types (t ∷ []) later)) (sym (append_assoc F (A ∷ []) G))
      ∙ evals-later (types ++ t ∷ []) later (F ++ A ∷ []) G (same_snoc F types A t same) (omega arith) (Accepts-extended types t plan accepted)
      ∙ evals-extended types t F A same plan (known-accepted types t plan accepted)

pub same_take : {X Y : Type 0} (n : ℕ) (xs : List X) (ys : List Y) → length xs ≡ length ys → length (take n xs) ≡ length (take n ys)
same_take n xs ys same = length-take n xs ∙ ap (λ k. min n k) same ∙ sym (length-take n ys)

pub same_drop : {X Y : Type 0} (n : ℕ) (xs : List X) (ys : List Y) → length xs ≡ length ys → length (drop n xs) ≡ length (drop n ys)
same_drop n xs ys same = length-drop n xs ∙ ap (λ k. k - n) same ∙ sym (length-drop n ys)

-- a plan that is accepted for the first n sources
module _ (plan : List Step) (types : List SourceType) (F : Family) (n : ℕ) (same : length F ≡ length types) (accepted : Accepts plan (take n types)) where
  pub misfit-first : misfit plan types F ≡ misfit plan (take n types) (take n F)
  misfit-first =
      ap₂ (misfit plan) (sym (take-append-drop n types)) (sym (take-append-drop n F))
      ∙ misfit-later plan (take n types) (drop n types) (take n F) (drop n F) (same_take n F types same) (same_drop n F types same) accepted

  pub eval-first : eval plan types F ≡ eval plan (take n types) (take n F)
  eval-first =
      ap (last_or empty)
      (ap₂ (evals plan) (sym (take-append-drop n types)) (sym (take-append-drop n F))
      ∙ evals-later plan (take n types) (drop n types) (take n F) (drop n F) (same_take n F types same) (same_drop n F types same) accepted)

-- ---- the first sources
-- of two families that agree at a source, the first sources do
none_taken : (n s : ℕ) → dataset_at (take n []) s ≡ empty
none_taken zero s = refl
none_taken (suc n) s = refl

dataset_at-take : (n : ℕ) (F G : Family) (s : ℕ) → dataset_at G s ≡ dataset_at F s → dataset_at (take n G) s ≡ dataset_at (take n F) s
dataset_at-take zero F G s same = refl
dataset_at-take (suc n) [] [] s same = refl
dataset_at-take (suc n) [] (B ∷ G) zero same = same
dataset_at-take (suc n) [] (B ∷ G) (suc s) same = dataset_at-take n [] G s same ∙ none_taken n s
dataset_at-take (suc n) (A ∷ F) [] zero same = same
dataset_at-take (suc n) (A ∷ F) [] (suc s) same = sym (none_taken n s) ∙ dataset_at-take n F [] s same
dataset_at-take (suc n) (A ∷ F) (B ∷ G) zero same = same
dataset_at-take (suc n) (A ∷ F) (B ∷ G) (suc s) same = dataset_at-take n F G s same

pub Keeps-take : (n : ℕ) (types : List SourceType) (F : Family) → Keeps types F → Keeps (take n types) (take n F)
Keeps-take zero types F keeps = tt
Keeps-take (suc n) [] [] keeps = tt
Keeps-take (suc n) [] (A ∷ F) keeps = absurd keeps
Keeps-take (suc n) (t ∷ types) [] keeps = absurd keeps
Keeps-take (suc n) (t ∷ types) (A ∷ F) keeps = (keeps.0, Keeps-take n types F keeps.1)

pub length-Keeps : (types : List SourceType) (F : Family) → Keeps types F → length F ≡ length types
length-Keeps [] [] keeps = refl
length-Keeps [] (A ∷ F) keeps = absurd keeps
length-Keeps (t ∷ types) [] keeps = absurd keeps
length-Keeps (t ∷ types) (A ∷ F) keeps = let rest = length-Keeps types F keeps.1 in omega arith

-- the changes of one of the first sources
pub TurnsInto-first : (types : List SourceType) (source : ℕ) (changes : List Change) (F G : Family) (n : ℕ) → source < n → TurnsInto types source changes F G → TurnsInto (take n types) source changes (take n F) (take n G)
TurnsInto-first types source changes F G n early turns = record {
  within = let size = length-take n types in let inside = turns.within in omega arith;
  changed =
      subst (λ A. IsChangeList changes A (dataset_at (take n G) source)) (sym (get_or-take n F source empty early))
      (subst (IsChangeList changes (dataset_at F source)) (sym (get_or-take n G source empty early)) turns.changed);
  others = λ s other. dataset_at-take n F G s (turns.others s other);
  keeps = Keeps-take n types G turns.keeps;
}

-- those of another source leave the first ones as they are
same_front : (n : ℕ) (F G : Family) → length F ≡ length G → ((s : ℕ) → s < n → dataset_at G s ≡ dataset_at F s) → take n G ≡ take n F
same_front zero F G size each = refl
same_front (suc n) [] [] size each = refl
same_front (suc n) [] (B ∷ G) size each = absurd (omega arith)
same_front (suc n) (A ∷ F) [] size each = absurd (omega arith)
same_front (suc n) (A ∷ F) (B ∷ G) size each = ap₂ (λ x xs. x ∷ xs) (each 0 (omega arith)) (same_front n F G (omega arith) (λ s below. each (suc s) (omega arith)))

pub first-same : (types : List SourceType) (source : ℕ) (changes : List Change) (F G : Family) (n : ℕ) → n ≤ source → length F ≡ length types → TurnsInto types source changes F G → take n G ≡ take n F
first-same types source changes F G n late size turns =
    same_front n F G (size ∙ sym (length-Keeps types G turns.keeps)) (λ s below. let other : s ≢ source = omega arith in turns.others s other)
