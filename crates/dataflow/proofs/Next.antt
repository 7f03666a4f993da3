-- One more step of a plan is prepared.
use Rattle.std.proofs.Common.{◌≡◌, inl, inr, ℕ, ◌+◌, ◌<◌, true, List, [], ◌∷◌, ◌++◌, length, refl, ap, sym, ◌∙◌, subst, arith}
use Rattle.std.specs.Prelude.{Option, Some, None, slice_get, slice_set}
use Rattle.std.specs.List.Sorted.{IsStrictlySortedBy}
use Rattle.std.proofs.Math.ListN.{get_or-append}
use Rattle.std.proofs.Math.Seq.{get_or-append_seam}
use Rattle.std.proofs.lemmas.Bool.Decides.{eqb_tells}
use Rattle.std.proofs.lemmas.List.{length-map}
use Rattle.std.proofs.lemmas.List.Elements.{All-from_recursion}
use Rattle.std.proofs.lemmas.Option.{slice_get_within}
use Rattle.datasets.specs.Dataset.{Dataset, empty}
use Rattle.weighted_set.specs.Changes.{IsChangeList}
use Rattle.weighted_set.specs.Held.{AllInRange}
use Rattle.weighted_set.specs.Standing.{KeepsRange, Standing}
use Rattle.weighted_set.specs.declared.weighted.Change.{Change}
use Rattle.weighted_set.proofs.Sets.{AllInRange-empty}
use Rattle.dataflow.specs.declared.wire.Wire.{Wire}
use Rattle.dataflow.specs.declared.wire.Wire.TheVariants.{Source, Of}
use Rattle.dataflow.specs.Changes.{AreFamilyChanges, changes_at, right_changes, step_changes}
use Rattle.dataflow.specs.Evaluation.{Family, dataset_at, evals, fits_at, right_dataset, step_output, step_passes, takes_at}
use Rattle.dataflow.specs.Standing.{HasStepped, MayChange, MayStep, OfInputs, StepsStand, meanings}
use Rattle.dataflow.specs.Wiring.{AreWired, RefersBefore, RightBefore, wire_at}
use Rattle.dataflow.proofs.Evaluated.{evals-at, meaning_at-is}
use Rattle.dataflow.proofs.Pairs.{each-set}

pub no_changes : (A : Dataset) → IsChangeList [] A A
unfolding IsStrictlySortedBy
no_changes A = record { rising = tt; each = All-from_recursion _ [] tt; complete = λ x n. absurd (n refl) }

-- the lists so far change the datasets As, which are in range, to Bs
pub record AreListed (wires : List Wire) (sources lists : List (List Change)) (As Bs : List Dataset) (count : ℕ) : Type 0 where
  pub changes : (j : ℕ) → j < count → IsChangeList (changes_at wires sources lists j) (dataset_at As j) (dataset_at Bs j)
  pub in_range : (j : ℕ) → j < count → AllInRange (dataset_at As j)

-- ---- the inputs of one step

module _ (of : Standing) (wires : List Wire) (sources lists : List (List Change)) (source_count k : ℕ) (As Bs : List Dataset) (so_far : AreListed wires sources lists As Bs k) where
  right-changes : (right : Option ℕ) → RightBefore k right → IsChangeList (right_changes wires sources lists right) (right_dataset As right) (right_dataset Bs right)
  right-changes None r = no_changes empty
  right-changes (Some right) r = so_far.changes right r

  right-in_range : (right : Option ℕ) → RightBefore k right → AllInRange (right_dataset As right)
  right-in_range None r = AllInRange-empty
  right-in_range (Some right) r = so_far.in_range right r

  may_step : (w : Wire) → RefersBefore source_count k w → OfInputs of.StandsFor w As → step_passes of.meaning.fits w As ≡ true → step_passes of.meaning.takes w As ≡ true → step_passes of.meaning.takes w Bs ≡ true → MayStep of wires sources lists As Bs w
  may_step (Source s) r stands fits takes takes_after = tt
  may_step (Of left right) r stands fits takes takes_after = record {
    stands = stands;
    left_changes = so_far.changes left r.0;
    right_changes = right-changes right r.1;
    left_in_range = so_far.in_range left r.0;
    right_in_range = right-in_range right r.1;
    fits_before = fits;
    takes_before = takes;
    takes_after = takes_after;
  }

  output-in_range : KeepsRange of.meaning → (F : Family) → ((s : ℕ) → AllInRange (dataset_at F s)) → (w : Wire) → RefersBefore source_count k w → step_passes of.meaning.fits w As ≡ true → AllInRange (step_output of.meaning.output w F As)
  output-in_range law F ranged (Source s) r fits = ranged s
  output-in_range law F ranged (Of left right) r fits = law (dataset_at As left) (right_dataset As right) (so_far.in_range left r.0) (right-in_range right r.1) fits

-- ---- one step has answered

module _ (old new : Standing) (list : List Change) (As Bs : List Dataset) where
  stepped-fits : (w : Wire) → HasStepped old new list As Bs w → step_passes old.meaning.fits w Bs ≡ true
  stepped-fits (Source s) h = refl
  stepped-fits (Of left right) h = h.fits

  stepped-pending : (w : Wire) → HasStepped old new list As Bs w → OfInputs new.StandsPending w Bs
  stepped-pending (Source s) h = tt
  stepped-pending (Of left right) h = h.pending

module _ (sources lists : List (List Change)) (list : List Change) where
  pushed-earlier : (w : Wire) (j : ℕ) → j < length lists → step_changes w sources (lists ++ list ∷ []) j ≡ step_changes w sources lists j
  pushed-earlier (Source s) j h = refl
  pushed-earlier (Of left right) j h = get_or-append lists (list ∷ []) [] j h

  pushed-last : (old new : Standing) (As Bs : List Dataset) (F G : Family) → AreFamilyChanges sources F G
      → (w : Wire) (k : ℕ) → RefersBefore (length sources) k w → HasStepped old new list As Bs w
      → IsChangeList (step_changes w sources (lists ++ list ∷ []) (length lists)) (step_output old.meaning.output w F As) (step_output old.meaning.output w G Bs)
  pushed-last old new As Bs F G changes (Source s) k r h = changes s r
  pushed-last old new As Bs F G changes (Of left right) k r h =
      let output = old.meaning.output in
      subst (λ l. IsChangeList l (output (dataset_at As left) (right_dataset As right)) (output (dataset_at Bs left) (right_dataset Bs right))) (sym (get_or-append_seam lists list [] [])) h.changes

-- ---- the next step

module _ {N : Type 0} (of : N → Standing) (nodes : List N) (wires : List Wire) (sources : List (List Change)) where
  -- what the steps before i have become
  pub record AreNext (new : List N) (lists : List (List Change)) (F G : Family) (i : ℕ) : Type 0 where
    pub steps : AreListed wires sources lists (evals (meanings of nodes) wires F) (evals (meanings of nodes) wires G) i
    pub fits : (j : ℕ) → j < i → fits_at (meanings of nodes) wires G j ≡ true
    pub pending : (j : ℕ) (m : N) → slice_get new j ≡ Some m → j < i → OfInputs (of m).StandsPending (wire_at wires j) (evals (meanings of nodes) wires G)

  module _ (same_length : length nodes ≡ length wires) (wired : AreWired wires (length sources)) (i : ℕ) (n : N) (here : slice_get nodes i ≡ Some n) where
    refers : RefersBefore (length sources) i (wire_at wires i)
    refers = wired i (let within = slice_get_within nodes i n here in omega arith)

    at_step : (F : Family) → dataset_at (evals (meanings of nodes) wires F) i ≡ step_output (of n).meaning.output (wire_at wires i) F (evals (meanings of nodes) wires F)
    at_step F =
        let ms = meanings of nodes in
        let count : length ms ≡ length nodes = length-map nodes (λ n. (of n).meaning) in
        let within = slice_get_within nodes i n here in
        evals-at ms wires (length sources) F i (count ∙ same_length) wired (omega arith) ∙ ap (λ m. step_output m.output (wire_at wires i) F (evals ms wires F)) (meaning_at-is of nodes i n here)

    pub fits_here : (F : Family) → fits_at (meanings of nodes) wires F i ≡ step_passes (of n).meaning.fits (wire_at wires i) (evals (meanings of nodes) wires F)
    fits_here F = ap (λ m. step_passes m.fits (wire_at wires i) (evals (meanings of nodes) wires F)) (meaning_at-is of nodes i n here)

    takes_here : (F : Family) → takes_at (meanings of nodes) wires F i ≡ step_passes (of n).meaning.takes (wire_at wires i) (evals (meanings of nodes) wires F)
    takes_here F = ap (λ m. step_passes m.takes (wire_at wires i) (evals (meanings of nodes) wires F)) (meaning_at-is of nodes i n here)

    module _ (F G : Family) (stands : StepsStand of nodes wires F) (may : MayChange (meanings of nodes) wires sources F G) where
      fits_before : step_passes (of n).meaning.fits (wire_at wires i) (evals (meanings of nodes) wires F) ≡ true
      fits_before = sym (fits_here F) ∙ may.fits_before i

      pub may-next : (new : List N) (lists : List (List Change)) → AreNext new lists F G i → MayStep (of n) wires sources lists (evals (meanings of nodes) wires F) (evals (meanings of nodes) wires G) (wire_at wires i)
      may-next new lists so_far =
          may_step (of n) wires sources lists (length sources) i (evals (meanings of nodes) wires F) (evals (meanings of nodes) wires G) so_far.steps (wire_at wires i) refers
          (stands i n here) fits_before (sym (takes_here F) ∙ may.takes_before i) (sym (takes_here G) ∙ may.takes_after i)

      pub AreNext-more : KeepsRange (of n).meaning
          → (new : List N) (lists : List (List Change)) (list : List Change) (m : N) → length lists ≡ i → i < length new
          → HasStepped (of n) (of m) list (evals (meanings of nodes) wires F) (evals (meanings of nodes) wires G) (wire_at wires i)
          → AreNext new lists F G i → AreNext (slice_set new i m) (lists ++ list ∷ []) F G (i + 1)
      AreNext-more law new lists list m size within stepped so_far =
          let As = evals (meanings of nodes) wires F in let Bs = evals (meanings of nodes) wires G in let w = wire_at wires i in let output = (of n).meaning.output in
          record {
            steps = record {
              changes = λ j l. up (λ (k : ℕ). IsChangeList (changes_at wires sources (lists ++ list ∷ []) k) (dataset_at As k) (dataset_at Bs k)) j l
                  (λ h. subst (λ cs. IsChangeList cs (dataset_at As j) (dataset_at Bs j)) (sym (pushed-earlier sources lists list (wire_at wires j) j (omega arith))) (so_far.steps.changes j h))
                  (subst (λ A. IsChangeList (changes_at wires sources (lists ++ list ∷ []) i) A (dataset_at Bs i)) (sym (at_step F))
                  (subst (λ B. IsChangeList (changes_at wires sources (lists ++ list ∷ []) i) (step_output output w F As) B) (sym (at_step G))
                  (subst (λ k. IsChangeList (step_changes w sources (lists ++ list ∷ []) k) (step_output output w F As) (step_output output w G Bs)) size
                  (pushed-last sources lists list (of n) (of m) As Bs F G may.changes w i refers stepped))));
              in_range = λ j l. up (λ (k : ℕ). AllInRange (dataset_at As k)) j l (so_far.steps.in_range j)
                  (subst AllInRange (sym (at_step F)) (output-in_range (of n) wires sources lists (length sources) i As Bs so_far.steps law F may.in_range w refers fits_before));
            };
            fits = λ j l. up (λ (k : ℕ). fits_at (meanings of nodes) wires G k ≡ true) j l (so_far.fits j) (fits_here G ∙ stepped-fits (of n) (of m) list As Bs w stepped);
            pending = each-set (λ j x. j < i + 1 → OfInputs (of x).StandsPending (wire_at wires j) Bs) new i m within (λ _. stepped-pending (of n) (of m) list As Bs w stepped)
                (λ j x ne e l. so_far.pending j x e (omega arith));
          }
        where
          up : (P : ℕ → Type 0) (j : ℕ) → j < i + 1 → (j < i → P j) → P i → P j
          up P j l less at =
              elim (eqb_tells j i) [
                | inl s ↦ subst P (sym s.1) at
                | inr s ↦ less (let ne = s.1 in omega arith)
              ]
