-- What is made of each step of a plan, when one step more comes after them.
use Rattle.std.specs.Prelude.{◌≡◌, ℕ, zero, suc, ◌+◌, ◌<◌, if◌then◌else◌, nat_eq, List, [], ◌∷◌, ◌++◌, length, slice_get, slice_index_or, Some}
use Rattle.std.proofs.Common.{refl, sym, ap, ◌∙◌, arith, drop, eq-eqb, length-append, length-take-le, take, take-append-drop}
use Rattle.std.proofs.Math.Dec.{eqb-suc-suc, eqb-suc-zero, eqb-zero-suc}
use Rattle.std.proofs.Math.Nat.{zero-add}
use Rattle.std.proofs.lemmas.List.{get_or_append_left}
use Rattle.std.proofs.lemmas.Option.{slice_get_within}
use Rattle.record_text.proofs.Lists.{rest_from}
use Rattle.plan_model.specs.declared.step.Step.{Step}
use Rattle.plan_model.specs.Evaluation.{step_by_step, step_by_step_after}

-- an item at the end of a list is at the list's length, and the list's own items stay
slice_index_or-snoc : {X : Type 0} (xs : List X) (x d : X) (i : ℕ) → slice_index_or (xs ++ x ∷ []) i d ≡ (if nat_eq i (length xs) then x else slice_index_or xs i d)
slice_index_or-snoc [] x d zero = refl
slice_index_or-snoc [] x d (suc i) = sym (ap (λ b. if b then x else d) (eqb-suc-zero i))
slice_index_or-snoc (y ∷ ys) x d zero = sym (ap (λ b. if b then x else y) (eqb-zero-suc (length ys)))
slice_index_or-snoc (y ∷ ys) x d (suc i) = slice_index_or-snoc ys x d i ∙ sym (ap (λ b. if b then x else slice_index_or ys i d) (eqb-suc-suc i (length ys)))

module _ {X : Type 0} (f : Step → List X → X) where
  pub length-step_by_step_after : (made : List X) (ss : List Step) → length (step_by_step_after f made ss) ≡ length made + length ss
  length-step_by_step_after made [] = omega arith
  length-step_by_step_after made (s ∷ ss) =
      let next = made ++ f s made ∷ [] in
      let rest = length-step_by_step_after next ss in
      omega (arith, rest, length-append made (f s made ∷ []))

  pub step_by_step_after-snoc : (made : List X) (ss : List Step) (s : Step) →
      step_by_step_after f made (ss ++ s ∷ []) ≡ step_by_step_after f made ss ++ f s (step_by_step_after f made ss) ∷ []
  step_by_step_after-snoc made [] s = refl
  step_by_step_after-snoc made (t ∷ ss) s = step_by_step_after-snoc (made ++ f t made ∷ []) ss s

  -- what is made of a step at the end stands at its place, and what was made of the steps before stays
  pub slice_index_or-step_by_step : (ss : List Step) (s : Step) (d : X) (i : ℕ) →
      slice_index_or (step_by_step f (ss ++ s ∷ [])) i d ≡ (if nat_eq i (length ss) then f s (step_by_step f ss) else slice_index_or (step_by_step f ss) i d)
  slice_index_or-step_by_step ss s d i =
      let made = step_by_step f ss in
      ap (λ all. slice_index_or all i d) (step_by_step_after-snoc [] ss s) ∙ slice_index_or-snoc made (f s made) d i
      ∙ ap (λ n. if nat_eq i n then f s made else slice_index_or made i d) (length-step_by_step_after [] ss ∙ zero-add (length ss))

  -- ---- a step within a plan

  step_by_step_after-append : (made : List X) (xs ys : List Step) → step_by_step_after f made (xs ++ ys) ≡ step_by_step_after f (step_by_step_after f made xs) ys
  step_by_step_after-append made [] ys = refl
  step_by_step_after-append made (x ∷ xs) ys = step_by_step_after-append (made ++ f x made ∷ []) xs ys

  -- what was made stays
  made_stays : (made : List X) (ss : List Step) (i : ℕ) (d : X) → i < length made → slice_index_or (step_by_step_after f made ss) i d ≡ slice_index_or made i d
  made_stays made [] i d within = refl
  made_stays made (s ∷ ss) i d within =
      made_stays (made ++ f s made ∷ []) ss i d (omega (arith, length-append made (f s made ∷ []))) ∙ get_or_append_left made (f s made ∷ []) d i within

  module _ (p : List Step) (i : ℕ) (s : Step) (at : slice_get p i ≡ Some s) where
    abbrev front : List X
    front = step_by_step f (take i p)

    length-front : length front ≡ i
    length-front =
        let within = slice_get_within p i s at in
        length-step_by_step_after [] (take i p) ∙ omega (arith, length-take-le i p (omega (arith, within)))

    made_in_parts : step_by_step f p ≡ step_by_step_after f (front ++ f s front ∷ []) (drop (i + 1) p)
    made_in_parts =
        ap (step_by_step f) (sym (take-append-drop i p) ∙ ap (λ rest. take i p ++ rest) (rest_from p i s at))
        ∙ step_by_step_after-append [] (take i p) (s ∷ drop (i + 1) p)

    -- what is made of the step is made of what was made of those before it
    pub made_at : (d : X) → slice_index_or (step_by_step f p) i d ≡ f s front
    made_at d =
        let size = length-front in
        ap (λ xs. slice_index_or xs i d) made_in_parts
        ∙ made_stays (front ++ f s front ∷ []) (drop (i + 1) p) i d (omega (arith, size, length-append front (f s front ∷ [])))
        ∙ slice_index_or-snoc front (f s front) d i
        ∙ ap (λ n. if nat_eq i n then f s front else slice_index_or front i d) size
        ∙ ap (λ b. if b then f s front else slice_index_or front i d) (eq-eqb i i refl)

    -- and that stays
    pub made_before : (j : ℕ) (d : X) → j < i → slice_index_or front j d ≡ slice_index_or (step_by_step f p) j d
    made_before j d below =
        let size = length-front in
        sym (ap (λ xs. slice_index_or xs j d) made_in_parts
        ∙ made_stays (front ++ f s front ∷ []) (drop (i + 1) p) j d (omega (arith, size, length-append front (f s front ∷ [])))
        ∙ get_or_append_left front (f s front ∷ []) d j (omega (arith, size)))
