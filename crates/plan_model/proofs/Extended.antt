-- A source that is declared later changes neither acceptance nor fit of a plan.
use Rattle.std.proofs.Common.{◌≡◌, ◌<◌, ℕ, suc, ◌+◌, List, [], ◌∷◌, ◌++◌, Bool, true, false, not, cond, ◌||◌, refl, sym, ap, ap₂, ◌∙◌, arith, true≢false, length, position, nat_lt, lt-ltb, length-append, Some, None, if◌then◌else◌}
use Rattle.std.specs.Prelude.{slice_get, option_map, option_and_then}
use Rattle.std.specs.Option.{unwrap_or}
use Rattle.std.specs.List.{AllByRecursion, list_any, position_or_len}
use Rattle.std.proofs.lemmas.Option.{slice_get-get_or}
use Rattle.std.proofs.lemmas.List.{get_or_append_left}
use Rattle.datasets.specs.Dataset.{Dataset, empty}
use Rattle.record_text.specs.Names.{name_eq}
use Rattle.record_text.specs.declared.kinds.Kind.{Kind}
use Rattle.plan_model.specs.declared.source_types.SourceType.{SourceType}
use Rattle.plan_model.specs.declared.step.Step.{Step}
use Rattle.plan_model.specs.Acceptance.{knows_source, matches_kinds, reads_columns, step_has_columns, step_has_kinds}
use Rattle.plan_model.specs.Evaluation.{Family, dataset_at, eval_step, evals, left_dataset, operator_of, right_dataset, step_by_step_after}
use Rattle.plan_model.specs.Fits.{misfit, operator_fits, step_fits}
use Rattle.plan_model.specs.Sources.{has_name, place_of}
use Rattle.plan_model.specs.Types.{columns_step, left_columns, left_sign, output_columns, output_sign, right_columns, right_sign, sign_step, source_named}
use Rattle.plan_model.specs.Uses.{is_place, uses_step}

-- ---- places of names

module _ {X : Type 0} (p : X → Bool) (ys : List X) where
  here_or_later : (here : Bool) (n m k : ℕ) → (here ≡ false → (n ≡ m) × (m < k)) → (cond (not here) (1 + n) 0 ≡ cond (not here) (1 + m) 0) × (cond (not here) (1 + m) 0 < suc k)
  here_or_later true n m k later = (refl, omega arith)
  here_or_later false n m k later = let l = later refl in (ap (λ i. 1 + i) l.0, omega (arith, l.1))

  in_rest : (here rest : Bool) → (here || rest) ≡ true → here ≡ false → rest ≡ true
  in_rest true rest e f = absurd (true≢false f)
  in_rest false rest e f = e

  -- what stands in a list keeps its place in a longer one
  position-known : (xs : List X) → list_any p xs ≡ true → (position_or_len p (xs ++ ys) ≡ position_or_len p xs) × (position_or_len p xs < length xs)
  position-known [] e = absurd (true≢false (sym e))
  position-known (x ∷ xs) e =
      here_or_later (p x) (position_or_len p (xs ++ ys)) (position_or_len p xs) (length xs) (λ f. position-known xs (in_rest (p x) (list_any p xs) e f))

  found : (n k : ℕ) → n < k → cond (nat_lt n k) (Some n) None ≡ Some n
  found n k lt = ap (λ b. cond b (Some n) None) (lt-ltb n k lt)

  pub place-known : (xs : List X) → list_any p xs ≡ true → (position p (xs ++ ys) ≡ Some (position_or_len p xs)) × (position p xs ≡ Some (position_or_len p xs)) × (position_or_len p xs < length xs)
  place-known xs e =
      let k = position-known xs e in
      let longer : position_or_len p xs < length (xs ++ ys) = omega (arith, k.1, length-append xs ys) in
      (ap (λ n. cond (nat_lt n (length (xs ++ ys))) (Some n) None) k.0 ∙ found (position_or_len p xs) (length (xs ++ ys)) longer, found (position_or_len p xs) (length xs) k.1, k.1)

-- ---- steps, one by one

-- functions that agree on steps make the same of them
pub step_by_step-agree : {X : Type 0} (f g : Step → List X → X) (P : Step → Type 0) → ((s : Step) (made : List X) → P s → f s made ≡ g s made)
    → (made : List X) (ss : List Step) → AllByRecursion P ss → step_by_step_after f made ss ≡ step_by_step_after g made ss
step_by_step-agree f g P agree made [] all = refl
step_by_step-agree f g P agree made (s ∷ ss) all =
    ap (λ m. step_by_step_after f (made ++ m ∷ []) ss) (agree s made all.0) ∙ step_by_step-agree f g P agree (made ++ g s made ∷ []) ss all.1

pub AllByRecursion-snoc : {X : Type 0} (P : X → Type 0) (xs : List X) (x : X) → AllByRecursion P xs → P x → AllByRecursion P (xs ++ x ∷ [])
AllByRecursion-snoc P [] x all h = (h, tt)
AllByRecursion-snoc P (y ∷ ys) x all h = (all.0, AllByRecursion-snoc P ys x all.1 h)

module _ (types : List SourceType) (t : SourceType) where
  abbrev more : List SourceType
  more = types ++ t ∷ []

  abbrev Known : Step → Type 0
  Known s = knows_source types s ≡ true

  place_of-known : (name : List ℕ) → has_name types name ≡ true
      → (place_of name more ≡ place_of name types)
  place_of-known name e = let k = place-known (λ u. name_eq name u.name) (t ∷ []) types e in k.0 ∙ sym k.1

  slice_get-known : (name : List ℕ) → has_name types name ≡ true → source_named name more ≡ source_named name types
  slice_get-known name e =
      let k = place-known (λ u. name_eq name u.name) (t ∷ []) types e in
      let i = position_or_len (λ u. name_eq name u.name) types in
      ap (option_and_then (slice_get more)) k.0
      ∙ slice_get-get_or more i t (omega (arith, k.2, length-append types (t ∷ [])))
      ∙ ap Some (get_or_append_left types (t ∷ []) t i k.2)
      ∙ sym (slice_get-get_or types i t k.2)
      ∙ sym (ap (option_and_then (slice_get types)) k.1)

  left_columns-agree : (s : Step) (cs : List (List Kind)) → Known s → left_columns more cs s ≡ left_columns types cs s
  left_columns-agree (Step.Source name) cs e = ap (λ u. unwrap_or (option_map (λ t. t.kinds) u) []) (slice_get-known name e)
  left_columns-agree s cs e = refl

  pub columns-agree : (s : Step) (cs : List (List Kind)) → Known s → columns_step more s cs ≡ columns_step types s cs
  columns-agree s cs e = ap (λ left. output_columns s left (right_columns cs s)) (left_columns-agree s cs e)

  pub has_columns-agree : (s : Step) (cs : List (List Kind)) → Known s → step_has_columns more s cs ≡ step_has_columns types s cs
  has_columns-agree s cs e = ap (λ left. reads_columns s left (right_columns cs s)) (left_columns-agree s cs e)

  pub has_kinds-agree : (s : Step) (cs : List (List Kind)) → Known s → step_has_kinds more s cs ≡ step_has_kinds types s cs
  has_kinds-agree s cs e = ap (λ left. matches_kinds s left (right_columns cs s)) (left_columns-agree s cs e)

  pub left_sign-agree : (s : Step) (bs : List Bool) → Known s → left_sign more bs s ≡ left_sign types bs s
  left_sign-agree (Step.Source name) bs e = ap (λ u. unwrap_or (option_map (λ t. t.signed) u) true) (slice_get-known name e)
  left_sign-agree s bs e = refl

  pub signs-agree : (s : Step) (bs : List Bool) → Known s → sign_step more s bs ≡ sign_step types s bs
  signs-agree s bs e = ap (λ left. output_sign s left (right_sign bs s)) (left_sign-agree s bs e)

  pub uses-agree : (source : ℕ) (s : Step) (ns : List ℕ) → Known s → uses_step more source s ns ≡ uses_step types source s ns
  uses-agree source (Step.Source name) ns e = ap (λ place. if is_place source place then 1 else 0) (place_of-known name e)
  uses-agree source s ns e = refl

  left_dataset-agree : (F : Family) (A : Dataset) → length F ≡ length types → (s : Step) (made : List Dataset) → Known s → left_dataset more (F ++ A ∷ []) made s ≡ left_dataset types F made s
  left_dataset-agree F A same (Step.Source name) made e =
      let k = place-known (λ u. name_eq name u.name) (t ∷ []) types e in
      let i = position_or_len (λ u. name_eq name u.name) types in
      let lt : i < length F = omega (arith, k.2, same) in
      ap (λ place. unwrap_or (option_map (dataset_at (F ++ A ∷ [])) place) empty) k.0
      ∙ get_or_append_left F (A ∷ []) empty i lt
      ∙ sym (ap (λ place. unwrap_or (option_map (dataset_at F) place) empty) k.1)
  left_dataset-agree F A same s made e = refl

  evals-agree : (F : Family) (A : Dataset) → length F ≡ length types → (s : Step) (made : List Dataset) → Known s → eval_step more (F ++ A ∷ []) s made ≡ eval_step types F s made
  evals-agree F A same s made e = ap (λ left. operator_of s left (right_dataset made s)) (left_dataset-agree F A same s made e)

  fits-agree : (F : Family) (A : Dataset) → length F ≡ length types → (made : List Dataset) (s : Step) → Known s → step_fits more (F ++ A ∷ []) made s ≡ step_fits types F made s
  fits-agree F A same made s e = ap (λ left. operator_fits s left (right_dataset made s)) (left_dataset-agree F A same s made e)

  -- the first of steps that two tests find
  position-agree : (p q : Step → Bool) → ((s : Step) → Known s → p s ≡ q s) → (ss : List Step) → AllByRecursion Known ss → position_or_len p ss ≡ position_or_len q ss
  position-agree p q agree [] known = refl
  position-agree p q agree (s ∷ ss) known = ap₂ (λ b n. cond (not b) (1 + n) 0) (agree s known.0) (position-agree p q agree ss known.1)

  -- a plan of known sources fits as before
  pub misfit-extended : (F : Family) (A : Dataset) → length F ≡ length types → (p : List Step) → AllByRecursion Known p
      → misfit p more (F ++ A ∷ []) ≡ misfit p types F
  misfit-extended F A same p known =
      let As = evals p types F in
      ap (λ es. position (λ s. not (step_fits more (F ++ A ∷ []) es s)) p)
      (step_by_step-agree (eval_step more (F ++ A ∷ [])) (eval_step types F) Known (evals-agree F A same) [] p known)
      ∙ ap (λ n. cond (nat_lt n (length p)) (Some n) None)
      (position-agree (λ s. not (step_fits more (F ++ A ∷ []) As s)) (λ s. not (step_fits types F As s)) (λ s e. ap not (fits-agree F A same As s e)) p known)
