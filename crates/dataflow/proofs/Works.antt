-- Works of steps, one after another, and of the changed rows of the output.
use Rattle.std.specs.Prelude.{◌≡◌, ◌≢◌, ℕ, zero, suc, ◌+◌, ◌-◌, ◌≤◌, ◌<◌, ◌||◌, true, false, List, [], ◌∷◌, length, map, Option, Some, None, slice_get}
use Rattle.std.proofs.Common.{inl, inr, refl, sym, ap, subst, ◌∙◌, arith, true≢false, Vec, Global}
use Rattle.std.proofs.Math.Numerals.{add-one}
use Rattle.std.proofs.lemmas.Bool.Decides.{eqb_tells}
use Rattle.std.proofs.lemmas.List.{length-map}
use Rattle.std.proofs.lemmas.List.Elements.{recursion_from_All}
use Rattle.std.proofs.lemmas.Map.Keys.{IsDistinct-from_sorted}
use Rattle.std.proofs.lemmas.Map.Made.{length-le_from_is_member}
use Rattle.std.specs.Cmp.{eq_by_cmp_equiv}
use Rattle.std.specs.List.{AllByRecursion}
use Rattle.datasets.proofs.Distances.{differing-are}
use Rattle.datasets.proofs.Rows.{same_row-equal}
use Rattle.datasets.specs.Dataset.{Dataset, at, differing}
use Rattle.datasets.specs.Entries.{Row, has_row, same_row}
use Rattle.record_text.specs.Order.{row_cmp}
use Rattle.record_text.specs.OrderLaws.{row_total}
use Rattle.weighted_set.specs.Changes.{IsChangeList, changed_rows}
use Rattle.weighted_set.specs.Standing.{IsWithin, Meaning, Standing}
use Rattle.weighted_set.specs.declared.weighted.Change.{Change}
use Rattle.dataflow.specs.declared.wire.Wire.{Wire}
use Rattle.dataflow.specs.Changes.{AreStepChanges, changes_at}
use Rattle.dataflow.specs.Evaluation.{Family, evals, last_output}
use Rattle.dataflow.specs.Standing.{MayChange, StepKeepsWork, StepsStand, meanings}
use Rattle.dataflow.specs.Wiring.{AreWired, wire_at}
use Rattle.dataflow.specs.Work.{all_works, both_works, changed_outputs, step_work, wired_work, work_at, works_before}
use Rattle.dataflow.proofs.Evaluated.{meaning_at-is}
use Rattle.dataflow.proofs.Next.{AreNext, may-next}

-- ---- two works
IsWithin-both : (a b c : ℕ) (w v : Option ℕ) → IsWithin a w b → IsWithin b v c → IsWithin a (both_works w v) c
IsWithin-both a b c None v h k = tt
IsWithin-both a b c (Some m) None h k = tt
IsWithin-both a b c (Some m) (Some n) h k = omega (arith, h, k)

IsWithin-more : (a b : ℕ) (w v : Option ℕ) → IsWithin a w b → IsWithin a (both_works w v) b
IsWithin-more a b None v h = tt
IsWithin-more a b (Some m) None h = tt
IsWithin-more a b (Some m) (Some n) h = omega (arith, h)

-- ---- changes are no more than the rows whose weights differ
changed-differ : (changes : List Change) (A B : Dataset) → AllByRecursion (λ c. (c.old ≡ at A c.row) × (c.new ≡ at B c.row) × (c.old ≢ c.new)) changes
    → (x : Row) → has_row (changed_rows changes) x ≡ true → at A x ≢ at B x
changed-differ [] A B each x m = absurd (true≢false (sym m))
changed-differ (c ∷ cs) A B each x m =
    elim (same_row x c.row) as (λ b. same_row x c.row ≡ b → (b || has_row (changed_rows cs) x) ≡ true → at A x ≢ at B x) [
      | true ↦ λ e _. subst (λ y. at A y ≢ at B y) (sym (same_row-equal x c.row e)) (λ same. each.0.2 (each.0.0 ∙ same ∙ sym each.0.1))
      | false ↦ λ _ n. changed-differ cs A B each.1 x n
    ] refl m

changes-le_differing : (changes : List Change) (A B : Dataset) → IsChangeList changes A B → length changes ≤ length (differing A B)
changes-le_differing changes A B is =
    let each = recursion_from_All (λ (c : Change). (c.old ≡ at A c.row) × (c.new ≡ at B c.row) × (c.old ≢ c.new)) changes is.each in
    subst (λ n. n ≤ length (differing A B)) (length-map changes (λ c. c.row))
    (length-le_from_is_member (eq_by_cmp_equiv row_total) (changed_rows changes) (differing A B) (IsDistinct-from_sorted row_cmp (changed_rows changes) is.rising)
    (λ x m. (differing-are A B x).1 (changed-differ changes A B each x m)))

-- ---- all steps, and the output
module _ (ms : List Meaning) (wires : List Wire) (F G : Family) (a : ℕ) where
  pub works-later : (b n i : ℕ) → i ≤ n → IsWithin a (works_before ms wires F G i) b → IsWithin a (works_before ms wires F G n) b
  works-later b zero i below h = let none : i ≡ 0 = omega (arith, below) in subst (λ k. IsWithin a (works_before ms wires F G k) b) none h
  works-later b (suc n) i below h =
      elim (eqb_tells i (suc n)) as (λ _. IsWithin a (works_before ms wires F G (suc n)) b) [
        | inl same ↦ subst (λ k. IsWithin a (works_before ms wires F G k) b) same.1 h
        | inr other ↦ IsWithin-more a b (works_before ms wires F G n) (work_at ms wires F G n) (works-later b n i (let apart = other.1 in omega (arith, below, apart)) h)
      ]

  -- one more step
  works-more : (b c i : ℕ) → IsWithin a (works_before ms wires F G i) b → IsWithin b (work_at ms wires F G i) c → IsWithin a (works_before ms wires F G (i + 1)) c
  works-more b c i h k =
      subst (λ j. IsWithin a (works_before ms wires F G j) c) (sym (add-one i))
      (IsWithin-both a b c (works_before ms wires F G i) (work_at ms wires F G i) h k)

  -- the steps alone, where nothing is put in the output
  pub work-unput : (b : ℕ) → IsWithin a (all_works ms wires F G) b → IsWithin a (wired_work ms wires F G) b
  work-unput b h = IsWithin-more a b (all_works ms wires F G) (Some (changed_outputs ms wires F G)) h

  -- the changes of the last step are put in the output
  pub work-put : (b c : ℕ) (sources lists lent : List (List Change)) → lent ≡ lists → 0 < length wires → AreStepChanges wires sources lists (evals ms wires F) (evals ms wires G)
      → IsWithin a (all_works ms wires F G) b → c ≤ b + length (changes_at wires sources lent (length wires - 1)) → IsWithin a (wired_work ms wires F G) c
  work-put b c sources lists lent is some changes h put =
      let last = length wires - 1 in
      let few = changes-le_differing (changes_at wires sources lists last) (last_output ms wires F) (last_output ms wires G) (changes last (omega arith)) in
      let size : length (changes_at wires sources lent last) ≡ length (changes_at wires sources lists last) = ap (λ ls. length (changes_at wires sources ls last)) is in
      IsWithin-both a b c (all_works ms wires F G) (Some (changed_outputs ms wires F G)) h (omega (arith, few, size, put))

-- a step is prepared
module _ {N : Type 0} (of : N → Standing) (nodes : List N) (wires : List Wire) (sources : List (List Change)) (same_length : length nodes ≡ length wires)
    (wired : AreWired wires (length sources)) (i : ℕ) (n : N) (here : slice_get nodes i ≡ Some n) (F G : Family) (stands : StepsStand of nodes wires F)
    (may : MayChange (meanings of nodes) wires sources F G) where
  abbrev Lists : List (Vec Change Global) → List (List Change)
  Lists vs = map (λ l. l.items) vs

  pub work-next : (new : List N) (lent made : List (Vec Change Global)) → lent ≡ made → AreNext of nodes wires sources new (Lists made) F G i
      → (a b c : ℕ) → IsWithin a (works_before (meanings of nodes) wires F G i) b → StepKeepsWork (of n) wires sources (Lists lent) (wire_at wires i) b c
      → IsWithin a (works_before (meanings of nodes) wires F G (i + 1)) c
  work-next new lent made is next a b c before step =
      let lists = subst (λ vs. AreNext of nodes wires sources new (Lists vs) F G i) (sym is) next in
      works-more (meanings of nodes) wires F G a b c i before
      (subst (λ (m : Meaning). IsWithin b (step_work m.work (wire_at wires i) (evals (meanings of nodes) wires F) (evals (meanings of nodes) wires G)) c) (sym (meaning_at-is of nodes i n here))
      (step (evals (meanings of nodes) wires F) (evals (meanings of nodes) wires G) (may-next of nodes wires sources same_length wired i n here F G stands may new (Lists lent) lists)))
