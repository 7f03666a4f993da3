-- The dataset of a step is the output of its operator.
use Rattle.std.proofs.Common.{◌≡◌, ℕ, zero, suc, ◌+◌, ◌<◌, ◌≤◌, true, List, [], ◌∷◌, ◌++◌, length, get_or, map, refl, ap, sym, ◌∙◌, subst, arith, length-append}
use Rattle.std.specs.Prelude.{Option, Some, None, slice_get}
use Rattle.std.specs.Option.{option_map, unwrap_or}
use Rattle.std.proofs.Math.ListN.{get_or-append}
use Rattle.std.proofs.Math.Seq.{get_or-append_seam}
use Rattle.std.proofs.lemmas.Option.{get_or_from_slice_get, slice_get-map, slice_get_past, unwrap_or-slice_get}
use Rattle.datasets.specs.Dataset.{Dataset, empty}
use Rattle.weighted_set.specs.Standing.{Meaning, Standing}
use Rattle.dataflow.specs.declared.wire.Wire.{Wire}
use Rattle.dataflow.specs.declared.wire.Wire.TheVariants.{Source, Of}
use Rattle.dataflow.specs.Evaluation.{Family, dataset_at, right_dataset, step_output, evals_after, evals, step_passes, fits_at, meaning_at, no_operator}
use Rattle.dataflow.specs.Standing.{meanings}
use Rattle.dataflow.specs.Wiring.{AreWired, RefersBefore, RightBefore, wire_at}

module _ (source_count : ℕ) (F : Family) where
  keeps_first : (ms : List Meaning) (wires : List Wire) (As : List Dataset) (j : ℕ) → j < length As → dataset_at (evals_after As ms wires F) j ≡ dataset_at As j
  keeps_first [] wires As j h = refl
  keeps_first (o ∷ os) [] As j h = refl
  keeps_first (o ∷ os) (w ∷ ws) As j h =
      let A = step_output o.output w F As in
      keeps_first os ws (As ++ A ∷ []) j (let e = length-append As (A ∷ []) in omega arith) ∙ get_or-append As (A ∷ []) empty j h

  same_right : (k : ℕ) (As Bs : List Dataset) → ((j : ℕ) → j < k → dataset_at As j ≡ dataset_at Bs j) → (right : Option ℕ) → RightBefore k right → right_dataset As right ≡ right_dataset Bs right
  same_right k As Bs h None r = refl
  same_right k As Bs h (Some right) r = h right r

  same_output : (o : Dataset → Dataset → Dataset) (w : Wire) (k : ℕ) (As Bs : List Dataset) → ((j : ℕ) → j < k → dataset_at As j ≡ dataset_at Bs j) → RefersBefore source_count k w → step_output o w F As ≡ step_output o w F Bs
  same_output o (Source s) k As Bs h r = refl
  same_output o (Of left right) k As Bs h r = (λ i. o (h left r.0 i) (same_right k As Bs h right r.1 i))

  output_after : (ms : List Meaning) (wires : List Wire) (As : List Dataset) → length ms ≡ length wires → ((i : ℕ) → i < length wires → RefersBefore source_count (length As + i) (wire_at wires i))
      → (i : ℕ) (d : Meaning) → i < length ms → dataset_at (evals_after As ms wires F) (length As + i) ≡ step_output (get_or ms i d).output (wire_at wires i) F (evals_after As ms wires F)
  output_after [] ws As e r i d h = absurd (omega arith)
  output_after (o ∷ os) [] As e r i d h = absurd (omega arith)
  output_after (o ∷ os) (w ∷ ws) As e r zero d h =
      let A = step_output o.output w F As in
      let all = evals_after (As ++ A ∷ []) os ws F in
      let size = length-append As (A ∷ []) in
      let none : length As + 0 ≡ length As = omega arith in
      ap (dataset_at all) none
      ∙ keeps_first os ws (As ++ A ∷ []) (length As) (omega arith)
      ∙ get_or-append_seam As A [] empty
      ∙ same_output o.output w (length As) As all (λ j l. sym (keeps_first (o ∷ os) (w ∷ ws) As j l)) (subst (λ k. RefersBefore source_count k w) none (r 0 (omega arith)))
  output_after (o ∷ os) (w ∷ ws) As e r (suc i) d h =
      let A = step_output o.output w F As in
      let all = evals_after (As ++ A ∷ []) os ws F in
      let size = length-append As (A ∷ []) in
      let move : (j : ℕ) → length (As ++ A ∷ []) + j ≡ length As + suc j = λ j. omega arith in
      ap (dataset_at all) (sym (move i))
      ∙ output_after os ws (As ++ A ∷ []) (omega arith) (λ j l. subst (λ k. RefersBefore source_count k (wire_at ws j)) (sym (move j)) (r (suc j) (omega arith))) i d (omega arith)

-- what is mapped from a list, at a place of it
pub get_or-map_at : {A B : Type 0} (f : A → B) (xs : List A) (i : ℕ) (x : A) (d : B) → slice_get xs i ≡ Some x → get_or (map f xs) i d ≡ f x
get_or-map_at f xs i x d e = get_or_from_slice_get (map f xs) i (f x) d (slice_get-map f xs i ∙ ap (option_map f) e)

module _ (ms : List Meaning) (wires : List Wire) where
  pub evals-at : (source_count : ℕ) (F : Family) (i : ℕ) → length ms ≡ length wires → AreWired wires source_count → i < length ms
      → dataset_at (evals ms wires F) i ≡ step_output (meaning_at ms i).output (wire_at wires i) F (evals ms wires F)
  evals-at source_count F i size wired within =
      let none : (j : ℕ) → j ≡ 0 + j = λ j. omega arith in
      ap (dataset_at (evals ms wires F)) (none i)
      ∙ output_after source_count F ms wires [] size (λ j l. subst (λ k. RefersBefore source_count k (wire_at wires j)) (none j) (wired j l)) i no_operator within

  -- there is no step past the end that doesn't fit
  pub fits_at-past : (F : Family) (i : ℕ) → length wires ≤ i → fits_at ms wires F i ≡ true
  fits_at-past F i h =
      let none : wire_at wires i ≡ Source 0 = sym (unwrap_or-slice_get wires i (Source 0)) ∙ ap (λ o. unwrap_or o (Source 0)) (slice_get_past wires i h) in
      ap (λ w. step_passes (meaning_at ms i).fits w (evals ms wires F)) none

-- what a node means, among the meanings of all
pub meaning_at-is : {N : Type 0} (of : N → Standing) (nodes : List N) (i : ℕ) (n : N) → slice_get nodes i ≡ Some n → meaning_at (meanings of nodes) i ≡ (of n).meaning
meaning_at-is of nodes i n e = get_or-map_at (λ n. (of n).meaning) nodes i n no_operator e
