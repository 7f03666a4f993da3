-- What nodes with their wires and output stand for, from what each node stands for.
use Rattle.std.proofs.Common.{◌≡◌, ◌<◌, List, ◌-◌, length, get_or, ap, sym, ◌∙◌, subst, arith}
use Rattle.std.specs.Prelude.{Some, slice_get}
use Rattle.std.proofs.lemmas.Option.{slice_get-get_or, slice_get_within}
use Rattle.datasets.specs.Dataset.{Dataset, at}
use Rattle.datasets.specs.Entries.{Row}
use Rattle.weighted_set.specs.Changes.{applied}
use Rattle.weighted_set.specs.Parts.{StoreParts, committed_part, pending_part}
use Rattle.weighted_set.specs.Standing.{Meaning, Standing}
use Rattle.weighted_set.specs.declared.weighted.Change.{Change}
use Rattle.weighted_set.proofs.ChangeLists.{change_list_leads_there}
use Rattle.dataflow.specs.declared.wire.Wire.{Wire}
use Rattle.dataflow.specs.declared.wire.Wire.TheVariants.{Source, Of}
use Rattle.dataflow.specs.Changes.{changes_at}
use Rattle.dataflow.specs.Evaluation.{Family, evals, last_output}
use Rattle.dataflow.specs.Outputs.{HoldRows}
use Rattle.dataflow.specs.Wiring.{wire_at}
use Rattle.dataflow.specs.Standing.{CommitsInputs, EachPair, EachStep, HaveStepped, KeepsInputs, OfInputs, meanings}
use Rattle.dataflow.proofs.Pairs.{same_count}
use Rattle.dataflow.specs.Wired.{AreAtRest, WiresPend, WiresStand}

inputs-too : (P Q : Dataset → Dataset → Type 0) → ((A B : Dataset) → P A B → Q A B) → (w : Wire) (As : List Dataset) → OfInputs P w As → OfInputs Q w As
inputs-too P Q means (Source s) As h = tt
inputs-too P Q means (Of left right) As h = means _ _ h

held_too : (p q : Row → Dataset) (A : Dataset) → ((k : Row) → q k ≡ p k) → HoldRows p A → HoldRows q A
held_too p q A same h x = ap (λ D. at D x) (same x) ∙ h x

module _ {N : Type 0} (of : N → Standing) (old new : List N) (same : meanings of new ≡ meanings of old) (wires : List Wire) (F : Family) where
  each-step : (P Q : N → Dataset → Dataset → Type 0) → EachPair (λ n m. (A B : Dataset) → P n A B → Q m A B) old new → EachStep P old wires (evals (meanings of old) wires F) → EachStep Q new wires (evals (meanings of new) wires F)
  each-step P Q means h =
      subst (λ (ms : List Meaning). EachStep Q new wires (evals ms wires F)) (sym same)
      (λ i m e.
      let within = slice_get_within new i m e in
      let size = same_count of old new same in
      let n = get_or old i m in
      let here : slice_get old i ≡ Some n = slice_get-get_or old i m (omega arith) in
      inputs-too (P n) (Q m) (means i n m here e) (wire_at wires i) (evals (meanings of old) wires F) (h i n here))

  output-too : (p q : Row → Dataset) → ((k : Row) → q k ≡ p k) → HoldRows p (last_output (meanings of old) wires F) → HoldRows q (last_output (meanings of new) wires F)
  output-too p q moved h = subst (λ (ms : List Meaning). HoldRows q (last_output ms wires F)) (sym same) (held_too p q (last_output (meanings of old) wires F) moved h)

  module _ (out after : StoreParts) where
    pub WiresStand-kept : EachPair (KeepsInputs of) old new → ((k : Row) → committed_part after k ≡ committed_part out k) → WiresStand of old out wires F → WiresStand of new after wires F
    WiresStand-kept kept moved s = record {
      steps = each-step (λ n. (of n).StandsFor) (λ n. (of n).StandsFor) kept s.steps;
      output = output-too (committed_part out) (committed_part after) moved s.output;
    }

    pub WiresStand-committed : EachPair (CommitsInputs of) old new → ((k : Row) → committed_part after k ≡ pending_part out k) → WiresPend of old out wires F → WiresStand of new after wires F
    WiresStand-committed committed moved s = record {
      steps = each-step (λ n. (of n).StandsPending) (λ n. (of n).StandsFor) (λ i n m e f. (committed i n m e f).0) s.steps;
      output = output-too (pending_part out) (committed_part after) moved s.output;
    }

    pub WiresStand-idle : EachPair (CommitsInputs of) old new → ((k : Row) → committed_part after k ≡ pending_part out k) → AreAtRest of old out → WiresStand of old out wires F → WiresStand of new after wires F
    WiresStand-idle committed moved rest s = record {
      steps = each-step (λ n. (of n).StandsFor) (λ n. (of n).StandsFor) (λ i n m e f. (committed i n m e f).1 (rest.idle i n e)) s.steps;
      output = output-too (committed_part out) (committed_part after) (λ k. moved k ∙ rest.settled k) s.output;
    }

-- the changes of the last step are put in the output
pub WiresPend-put : {N : Type 0} (of : N → Standing) (old new : List N) → meanings of new ≡ meanings of old → (wires : List Wire) (F G : Family) (out after : StoreParts) (sources lists lent : List (List Change)) → lent ≡ lists → 0 < length wires
    → ((k : Row) → pending_part out k ≡ committed_part out k) → HaveStepped of old new wires sources lists F G → WiresStand of old out wires F
    → ((A : Dataset) → HoldRows (pending_part out) A → HoldRows (pending_part after) (applied A (changes_at wires sources lent (length wires - 1)))) → WiresPend of new after wires G
WiresPend-put of old new same wires F G out after sources lists lent is some settled done s put =
    let last = length wires - 1 in
    let A = last_output (meanings of old) wires F in
    let B = last_output (meanings of old) wires G in
    let leads = change_list_leads_there (changes_at wires sources lists last) A B (done.changes last (omega arith)) in
    let held : HoldRows (pending_part after) (applied A (changes_at wires sources lent last)) = put A (held_too (committed_part out) (pending_part out) A settled s.output) in
    record {
      steps = done.pending;
      output = subst (λ (ms : List Meaning). HoldRows (pending_part after) (last_output ms wires G)) (sym same)
          (subst (HoldRows (pending_part after)) (ap (λ ls. applied A (changes_at wires sources ls last)) is ∙ leads.1) held);
    }
