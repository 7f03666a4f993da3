-- The work of a plan on more sources than its graph was built on.
use Rattle.std.proofs.Common.{◌≡◌, ℕ, ◌+◌, List, [], ◌∷◌, ◌++◌, true, refl, sym, ap, ap₂, ◌∙◌, arith, drop, length, take}
use Rattle.std.specs.List.{AllByRecursion}
use Rattle.std.specs.Prelude.{sum_by}
use Rattle.std.proofs.lemmas.List.{append-nil, append_assoc, take-append-drop}
use Rattle.std.proofs.lemmas.List.Sums.{sum_by-cons}
use Rattle.datasets.specs.Dataset.{Dataset}
use Rattle.flow_graph.specs.Work.{plan_work, work_of_step}
use Rattle.plan_model.specs.Acceptance.{Accepts, knows_source}
use Rattle.plan_model.specs.Evaluation.{Family, evals}
use Rattle.plan_model.specs.declared.source_types.SourceType.{SourceType}
use Rattle.plan_model.specs.declared.step.Step.{Step}
use Rattle.plan_model.proofs.AcceptedLater.{Accepts-extended, known-accepted}
use Rattle.session_data.specs.Planned.{Holds}
use Rattle.session_data.specs.declared.plans.Planned.{Planned}
use Rattle.session_data.proofs.Becoming.{accepted_first}
use Rattle.session_data.proofs.FirstSources.{evals-extended, left_dataset-more, same_drop, same_snoc, same_take}

-- sums of what agrees at each item
sum_by-agree : {X : Type 0} (f g : X → ℕ) (P : X → Type 0) → ((x : X) → P x → f x ≡ g x)
    → (xs : List X) → AllByRecursion P xs → sum_by f xs ≡ sum_by g xs
sum_by-agree f g P agree [] all = refl
sum_by-agree f g P agree (x ∷ xs) all =
    sum_by-cons f x xs ∙ ap₂ (λ n m. n + m) (agree x all.0) (sum_by-agree f g P agree xs all.1) ∙ sym (sum_by-cons g x xs)

-- ---- a source that is declared later changes nothing
module _ (types : List SourceType) (t : SourceType) (F G : Family) (A B : Dataset) (same : length F ≡ length types) (size : length G ≡ length types) where
  work_of_step-more : (As Bs : List Dataset) (s : Step) → knows_source types s ≡ true
      → work_of_step (types ++ t ∷ []) (F ++ A ∷ []) (G ++ B ∷ []) As Bs s ≡ work_of_step types F G As Bs s
  work_of_step-more As Bs s known = rw (left_dataset-more types t F A same s As known, left_dataset-more types t G B size s Bs known) refl

  plan_work-extended : (p : List Step) → AllByRecursion (λ s. knows_source types s ≡ true) p
      → plan_work p (types ++ t ∷ []) (F ++ A ∷ []) (G ++ B ∷ []) ≡ plan_work p types F G
  plan_work-extended p known =
      ap₂ (λ (As Bs : List Dataset). sum_by (work_of_step (types ++ t ∷ []) (F ++ A ∷ []) (G ++ B ∷ []) As Bs) p)
      (evals-extended types t F A same p known) (evals-extended types t G B size p known)
      ∙ sum_by-agree _ _ (λ s. knows_source types s ≡ true) (work_of_step-more (evals p types F) (evals p types G)) p known

module _ (plan : List Step) where
  plan_work-later : (types later : List SourceType) (F G X Y : Family) → length F ≡ length types → length G ≡ length types
      → length X ≡ length later → length Y ≡ length later → Accepts plan types
      → plan_work plan (types ++ later) (F ++ X) (G ++ Y) ≡ plan_work plan types F G
  plan_work-later types [] F G [] [] same size more extra accepted = rw (append-nil types, append-nil F, append-nil G) refl
  plan_work-later types [] F G (A ∷ X) Y same size more extra accepted = absurd (omega arith)
  plan_work-later types [] F G [] (B ∷ Y) same size more extra accepted = absurd (omega arith)
  plan_work-later types (t ∷ later) F G [] Y same size more extra accepted = absurd (omega arith)
  plan_work-later types (t ∷ later) F G (A ∷ X) [] same size more extra accepted = absurd (omega arith)
  plan_work-later types (t ∷ later) F G (A ∷ X) (B ∷ Y) same size more extra accepted =
      rw (sym (append_assoc types (t ∷ []) later), sym (append_assoc F (A ∷ []) X), sym (append_assoc G (B ∷ []) Y))
      (plan_work-later (types ++ t ∷ []) later (F ++ A ∷ []) (G ++ B ∷ []) X Y (same_snoc F types A t same) (same_snoc G types B t size)
      (omega arith) (omega arith) (Accepts-extended types t plan accepted)
      ∙ plan_work-extended types t F G A B same size plan (known-accepted types t plan accepted))

-- a plan that is accepted for the first n sources
plan_work-first : (plan : List Step) (types : List SourceType) (F G : Family) (n : ℕ) → length F ≡ length types → length G ≡ length types
    → Accepts plan (take n types) → plan_work plan types F G ≡ plan_work plan (take n types) (take n F) (take n G)
plan_work-first plan types F G n same size accepted =
    ap₂ (λ (ts : List SourceType) (X : Family). plan_work plan ts X G) (sym (take-append-drop n types)) (sym (take-append-drop n F))
    ∙ ap (plan_work plan (take n types ++ drop n types) (take n F ++ drop n F)) (sym (take-append-drop n G))
    ∙ plan_work-later plan (take n types) (drop n types) (take n F) (take n G) (drop n F) (drop n G)
    (same_take n F types same) (same_take n G types size) (same_drop n F types same) (same_drop n G types size) accepted

-- a plan does the work of its graph's plan on the first sources
pub plan_work-of_graph : (types : List SourceType) (F G : Family) (planned : Planned) (h : Holds types F planned) → length G ≡ length types
    → let n : ℕ = length planned.graph.types in
    plan_work planned.plan types F G ≡ plan_work planned.graph.plan planned.graph.types (take n F) (take n G)
plan_work-of_graph types F G planned h size =
    let n : ℕ = length planned.graph.types in
    plan_work-first planned.plan types F G n h.size size (accepted_first types F planned h)
    ∙ ap₂ (λ (plan : List Step) (ts : List SourceType). plan_work plan ts (take n F) (take n G)) (sym h.same) h.first
