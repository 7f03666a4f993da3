-- Weights that are added to rows of which none is there twice.
use Rattle.std.specs.Prelude.{ℕ, suc, ◌+◌, ◌≤◌, ◌≡◌, ◌≢◌, Bool, true, false, not, cond, ◌||◌, List, [], ◌∷◌, ◌++◌, length, Some, None, refl}
use Rattle.std.specs.List.{AllByRecursion, IsDistinct, dedup, dedup_from, position_from}
use Rattle.std.specs.List.Sorted.{IsPermutation}
use Rattle.std.proofs.Common.{sym, ap, subst, inl, inr, ◌∙◌, arith}
use Rattle.std.proofs.lemmas.Bool.{or_parts}
use Rattle.std.proofs.lemmas.List.Elements.{All-from_recursion}
use Rattle.std.proofs.lemmas.List.Sorted.{All-permutation, IsPermutation-map, IsPermutation-sym, list_any-IsPermutation}
use Rattle.std.proofs.lemmas.Map.Keys.{IsDistinct-IsPermutation, IsDistinct-from_sorted}
use Rattle.ratios.specs.Range.{InRange, in_range}
use Rattle.ratios.specs.Ratio.{Ratio, ratio_add}
use Rattle.record_text.specs.Order.{row_cmp}
use Rattle.datasets.specs.Dataset.{Dataset, add_at, at, is_negative, running_weights, with_added}
use Rattle.datasets.specs.Entries.{AreRising, Row, has_row, same_row}
use Rattle.datasets.proofs.Rows.{same_row-itself, same_row-turned}
use Rattle.datasets.proofs.Weights.{at-add_at}
use Rattle.weighted_set.specs.declared.weighted.Change.{Change}
use Rattle.weighted_set.specs.declared.weighted.Weighted.{Weighted}
use Rattle.weighted_set.specs.Adding.{AreChangesOfAdding, EndsAllowed, IsAddedChange}
use Rattle.weighted_set.specs.Changes.{changed_rows, entries_of}

-- each change adds the weight at its place
abbrev pub AreAddedChanges : Dataset → Bool → List Weighted → List Change → Type 0
AreAddedChanges A signed [] [] = Unit {0}
AreAddedChanges A signed [] (c ∷ cs) = ⊥
AreAddedChanges A signed (one ∷ added) [] = ⊥
AreAddedChanges A signed (one ∷ added) (c ∷ cs) = IsAddedChange A signed one c × AreAddedChanges A signed added cs

module _ (A : Dataset) (signed : Bool) where
  pub added_changes_more : (added : List Weighted) (cs : List Change) (one : Weighted) (c : Change) → IsAddedChange A signed one c → AreAddedChanges A signed added cs → AreAddedChanges A signed (added ++ one ∷ []) (cs ++ c ∷ [])
  added_changes_more [] [] one c h k = (h, tt)
  added_changes_more [] (d ∷ ds) one c h k = absurd k
  added_changes_more (e ∷ es) [] one c h k = absurd k
  added_changes_more (e ∷ es) (d ∷ ds) one c h k = (k.0, added_changes_more es ds one c h k.1)

  pub as_many : (added : List Weighted) (cs : List Change) → AreAddedChanges A signed added cs → length cs ≡ length added
  as_many [] [] k = refl
  as_many [] (d ∷ ds) k = absurd k
  as_many (e ∷ es) [] k = absurd k
  as_many (e ∷ es) (d ∷ ds) k = ap suc (as_many es ds k.1)

-- ---- one row more
at_elsewhere : (A : Dataset) (x y : Row) (w : Ratio) → same_row y x ≡ false → at (add_at x w A) y ≡ at A y
at_elsewhere A x y w n = at-add_at x w A y ∙ ap (λ b. cond b (ratio_add (at A y) w) (at A y)) n

added_elsewhere : (A : Dataset) (signed : Bool) (x : Row) (w : Ratio) (added : List Weighted) (cs : List Change) → AllByRecursion (λ y. same_row x y ≡ false) (changed_rows cs) → AreAddedChanges A signed added cs
    → AreAddedChanges (add_at x w A) signed added cs
added_elsewhere A signed x w [] [] n k = tt
added_elsewhere A signed x w [] (d ∷ ds) n k = absurd k
added_elsewhere A signed x w (e ∷ es) [] n k = absurd k
added_elsewhere A signed x w (e ∷ es) (d ∷ ds) n k =
    let h = k.0 in
    let same = sym (at_elsewhere A x e.row w (same_row-turned e.row x ∙ ap (same_row x) (sym h.row) ∙ n.0)) in (
      record { row = h.row; old = h.old ∙ same; new = h.new ∙ ap (λ q. ratio_add q e.weight) same; in_range = h.in_range; changes = h.changes; allowed = h.allowed },
      added_elsewhere A signed x w es ds n.1 k.1,
    )

-- none of these rows is x
absent_row : (x : Row) (xs : List Row) → AllByRecursion (λ y. same_row x y ≡ false) xs → has_row xs x ≡ false
absent_row x [] h = refl
absent_row x (y ∷ ys) h = ap (λ b. b || has_row ys x) h.0 ∙ absent_row x ys h.1

-- ---- all rows
rest_in_range : (A : Dataset) (signed : Bool) (added : List Weighted) (cs : List Change) (i : ℕ) → IsDistinct same_row (changed_rows cs) → AreAddedChanges A signed added cs
    → position_from (λ q. not (in_range q)) i (running_weights A (entries_of added)) ≡ None
unfolding IsDistinct
rest_in_range A signed [] cs i n k = refl
rest_in_range A signed (e ∷ es) [] i n k = absurd k
rest_in_range A signed (e ∷ es) (d ∷ ds) i n k =
    let h = k.0 in
    let more = added_elsewhere A signed e.row e.weight es ds (subst (λ x. AllByRecursion (λ y. same_row x y ≡ false) (changed_rows ds)) h.row n.0) k.1 in
    let rest = position_from (λ q. not (in_range q)) (i + 1) (running_weights (add_at e.row e.weight A) (entries_of es)) in
    ap (λ b. cond (not b) (Some i) rest) (subst InRange h.new h.in_range) ∙ rest_in_range (add_at e.row e.weight A) signed es ds (i + 1) n.1 more

unchanged : (A : Dataset) (signed : Bool) (added : List Weighted) (cs : List Change) (x : Row) → AreAddedChanges A signed added cs → has_row (changed_rows cs) x ≡ false
    → IsDistinct same_row (changed_rows cs) → at (with_added A (entries_of added)) x ≡ at A x
unfolding IsDistinct
unchanged A signed [] cs x k h n = refl
unchanged A signed (e ∷ es) [] x k h n = absurd k
unchanged A signed (e ∷ es) (d ∷ ds) x k h n =
    let p = or_parts (same_row x d.row) (has_row (changed_rows ds) x) h in
    let more = added_elsewhere A signed e.row e.weight es ds (subst (λ x. AllByRecursion (λ y. same_row x y ≡ false) (changed_rows ds)) k.0.row n.0) k.1 in
    unchanged (add_at e.row e.weight A) signed es ds x more p.1 n.1 ∙ at_elsewhere A e.row x e.weight (ap (same_row x) (sym k.0.row) ∙ p.0)

module _ (signed : Bool) where
  -- each change leads from A to what the weights make of it
  abbrev Leads : Dataset → Dataset → Change → Type 0
  Leads A B c = (c.old ≡ at A c.row) × (c.new ≡ at B c.row) × (c.old ≢ c.new)

  ends : (A : Dataset) (added : List Weighted) (cs : List Change) → AreAddedChanges A signed added cs → IsDistinct same_row (changed_rows cs)
      → AllByRecursion (λ c. c.new ≡ at (with_added A (entries_of added)) c.row) cs
  unfolding IsDistinct
  ends A [] [] k n = tt
  ends A [] (d ∷ ds) k n = absurd k
  ends A (e ∷ es) [] k n = absurd k
  ends A (e ∷ es) (d ∷ ds) k n =
      let h = k.0 in
      let x = e.row in
      let apart = subst (λ x. AllByRecursion (λ y. same_row x y ≡ false) (changed_rows ds)) h.row n.0 in
      let more = added_elsewhere A signed x e.weight es ds apart k.1 in
      let here : at (add_at x e.weight A) x ≡ ratio_add (at A x) e.weight = at-add_at x e.weight A x ∙ ap (λ b. cond b (ratio_add (at A x) e.weight) (at A x)) (same_row-itself x) in (
        h.new ∙ sym here ∙ sym (unchanged (add_at x e.weight A) signed es ds x more (absent_row x (changed_rows ds) apart) n.1) ∙ ap (at (with_added (add_at x e.weight A) (entries_of es))) (sym h.row),
        ends (add_at x e.weight A) es ds more n.1,
      )

  leads : (A B : Dataset) (added : List Weighted) (cs : List Change) → AreAddedChanges A signed added cs → AllByRecursion (λ c. c.new ≡ at B c.row) cs → AllByRecursion (Leads A B) cs
  leads A B [] [] k n = tt
  leads A B [] (d ∷ ds) k n = absurd k
  leads A B (e ∷ es) [] k n = absurd k
  leads A B (e ∷ es) (d ∷ ds) k n = ((k.0.old ∙ ap (at A) (sym k.0.row), n.0, k.0.changes), leads A B es ds k.1 n.1)

  none_below : (A B : Dataset) (added : List Weighted) (cs : List Change) (i : ℕ) → signed ≡ false → AreAddedChanges A signed added cs → AllByRecursion (λ c. c.new ≡ at B c.row) cs
      → position_from (λ e. is_negative (at B e.0)) i (entries_of added) ≡ None
  none_below A B [] cs i s k n = refl
  none_below A B (e ∷ es) [] i s k n = absurd k
  none_below A B (e ∷ es) (d ∷ ds) i s k n =
      let rest = position_from (λ e. is_negative (at B e.0)) (i + 1) (entries_of es) in
      ap (λ b. cond b (Some i) rest) (ap is_negative (ap (at B) (sym k.0.row) ∙ sym n.0) ∙ k.0.allowed s) ∙ none_below A B es ds (i + 1) s k.1 n.1

-- ---- a list without repetitions is left as it is
module _ {X : Type 0} (E : X → X → Bool) where
  fewer : (x : X) (xs : List X) → length (dedup_from E x xs) ≤ suc (length xs)
  fewer x [] = omega arith
  fewer x (y ∷ ys) =
      elim (E y x) as (λ b. length (cond b (dedup_from E x ys) (x ∷ dedup_from E y ys)) ≤ suc (suc (length ys))) [
        | true ↦ let h = fewer x ys in omega (arith, h)
        | false ↦ let h = fewer y ys in omega (arith, h)
      ]

  kept_from : (x : X) (xs : List X) → suc (length xs) ≤ length (dedup_from E x xs) → dedup_from E x xs ≡ x ∷ xs
  kept_from x [] h = refl
  kept_from x (y ∷ ys) h =
      elim (E y x) as (λ b. suc (suc (length ys)) ≤ length (cond b (dedup_from E x ys) (x ∷ dedup_from E y ys)) → cond b (dedup_from E x ys) (x ∷ dedup_from E y ys) ≡ x ∷ y ∷ ys) [
        | true ↦ λ k. let few = fewer x ys in absurd (omega (arith, few, k))
        | false ↦ λ k. ap (λ zs. x ∷ zs) (kept_from y ys (omega (arith, k)))
      ] h

  pub dedup_kept : (xs : List X) → length xs ≤ length (dedup E xs) → dedup E xs ≡ xs
  dedup_kept [] h = refl
  dedup_kept (x ∷ xs) h = kept_from x xs h

-- ---- the changes in row order
pub distinct_changes : (A : Dataset) (signed : Bool) (added : List Weighted) (list sorted : List Change) → AreAddedChanges A signed added list → IsPermutation list sorted → AreRising (changed_rows sorted)
    → AreChangesOfAdding A added signed sorted
distinct_changes A signed added list sorted each moved rising =
    let B = with_added A (entries_of added) in
    let back = IsPermutation-sym (changed_rows list) (changed_rows sorted) (IsPermutation-map (λ (c : Change). c.row) list sorted moved) in
    let apart = IsDistinct-IsPermutation same_row same_row-turned (changed_rows sorted) (changed_rows list) back (IsDistinct-from_sorted row_cmp (changed_rows sorted) rising) in
    let news = ends signed A added list each apart in
    let allowed : (b : Bool) → signed ≡ b → EndsAllowed A added signed = λ b. elim b as (λ b. signed ≡ b → EndsAllowed A added signed) [ true ↦ λ e. inl e | false ↦ λ e. inr (none_below signed A B added list 0 e each news) ] in
    record {
      in_range = rest_in_range A signed added list 0 apart each;
      allowed = allowed signed refl;
      lead_there = record {
        rising = rising;
        each = All-permutation (Leads signed A B) list sorted moved (All-from_recursion (Leads signed A B) list (leads signed A B added list each news));
        complete = λ x n.
            sym (list_any-IsPermutation (same_row x) (changed_rows list) (changed_rows sorted) (IsPermutation-map (λ (c : Change). c.row) list sorted moved))
            ∙ (elim (has_row (changed_rows list) x) as (λ b. has_row (changed_rows list) x ≡ b → b ≡ true) [
              | true ↦ λ p. refl
              | false ↦ λ p. absurd (n (sym (unchanged A signed added list x each p apart)))
            ]) refl;
      };
    }
