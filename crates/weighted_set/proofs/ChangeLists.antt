-- Lists of changes, and what they make of a dataset.
use Rattle.std.specs.Prelude.{◌≡◌, ◌≢◌, Bool, true, false, not, cond, ◌||◌, All, List, [], ◌∷◌, map, filter, Option, Some, None, MatchOption, refl}
use Rattle.std.specs.List.{AllByRecursion}
use Rattle.std.specs.List.Sorted.{IsStrictlySortedBy}
use Rattle.std.specs.declared.cmp.Ordering.TheVariants.{Less}
use Rattle.record_text.specs.Order.{row_cmp}
use Rattle.std.specs.Map.{lookup}
use Rattle.std.specs.Ordering.{is_eq, eq_by_cmp}
use Rattle.std.proofs.Common.{sym, ap, subst, ◌∙◌, true≢false}
use Rattle.std.proofs.Math.Bool.{or-false, or-true}
use Rattle.std.proofs.lemmas.Bool.{false_from_ne_true, or_parts}
use Rattle.std.proofs.lemmas.Cmp.{tied_itself}
use Rattle.std.proofs.lemmas.List.Elements.{All-from_recursion, recursion_from_All}
use Rattle.ratios.specs.Ratio.{Ratio, ratio_cmp}
use Rattle.ratios.proofs.Order.{ratio_cmp_total, same_from_eq}
use Rattle.datasets.specs.Dataset.{Dataset, at, set_at}
use Rattle.datasets.specs.Entries.{Row, AreRising, has_row, same_row}
use Rattle.datasets.proofs.Equality.{same_weights}
use Rattle.datasets.proofs.Rows.{same_row-equal, same_row-itself}
use Rattle.datasets.proofs.Weights.{at-set_at}
use Rattle.weighted_set.specs.declared.held.Held.{Held}
use Rattle.weighted_set.specs.declared.weighted.Change.{Change}
use Rattle.weighted_set.specs.Changes.{changed_rows, IsChangeList, AreChangesOf, applied}
use Rattle.weighted_set.specs.Held.{HeldRows, HoldsStep, held_changes}
use Rattle.weighted_set.proofs.Parts.{IsBelowRows, absent_below}

-- ---- tests
differ_test : (q r : Ratio) → q ≢ r → eq_by_cmp ratio_cmp q r ≡ false
differ_test q r n = false_from_ne_true (eq_by_cmp ratio_cmp q r) (λ e. n (same_from_eq q r e))

differ_from_test : (q r : Ratio) → eq_by_cmp ratio_cmp q r ≡ false → q ≢ r
differ_from_test q r f e = true≢false (sym (ap is_eq (tied_itself ratio_cmp_total q)) ∙ ap (eq_by_cmp ratio_cmp q) e ∙ f)

-- two ratios are equal if they can't differ
same_unless : (q r : Ratio) → (q ≢ r → ⊥) → q ≡ r
same_unless q r n =
    elim (eq_by_cmp ratio_cmp q r) as (λ b. eq_by_cmp ratio_cmp q r ≡ b → q ≡ r) [ true ↦ λ e. same_from_eq q r e | false ↦ λ f. absurd (n (differ_from_test q r f)) ] refl

-- ---- the rows whose two weights differ, as changes
abbrev change_of : Row × Held → Change
change_of e = record { row = e.0; old = e.1.committed; new = e.1.pending }

abbrev differs : Row × Held → Bool
differs e = not (eq_by_cmp ratio_cmp e.1.committed e.1.pending)

abbrev held_rows : HeldRows → List Row
held_rows es = map (λ e. e.0) es

below_changes : (x : Row) (es : HeldRows) → IsBelowRows x (held_rows es) → IsBelowRows x (changed_rows (held_changes es))
below_changes x [] h = tt
below_changes x (e ∷ es) h =
    elim (differs e) as (λ b. IsBelowRows x (changed_rows (map change_of (cond b (e ∷ filter differs es) (filter differs es))))) [ true ↦ (h.0, below_changes x es h.1) | false ↦ below_changes x es h.1 ]

rising_changes : (es : HeldRows) → AreRising (held_rows es) → AreRising (changed_rows (held_changes es))
unfolding IsStrictlySortedBy
rising_changes [] h = tt
rising_changes (e ∷ es) h =
    elim (differs e) as (λ b. AreRising (changed_rows (map change_of (cond b (e ∷ filter differs es) (filter differs es))))) [ true ↦ (below_changes e.0 es h.0, rising_changes es h.1) | false ↦ rising_changes es h.1 ]

module _ (A B : Dataset) where
  abbrev Leads : Change → Type 0
  Leads c = (c.old ≡ at A c.row) × (c.new ≡ at B c.row) × (c.old ≢ c.new)

  abbrev Holds : Row × Held → Type 0
  Holds e = (e.1.committed ≡ at A e.0) × (e.1.pending ≡ at B e.0)

  changes_lead : (es : HeldRows) → AllByRecursion Holds es → AllByRecursion Leads (held_changes es)
  changes_lead [] h = tt
  changes_lead (e ∷ es) h =
      elim (eq_by_cmp ratio_cmp e.1.committed e.1.pending) as (λ b. eq_by_cmp ratio_cmp e.1.committed e.1.pending ≡ b → AllByRecursion Leads (map change_of (cond (not b) (e ∷ filter differs es) (filter differs es)))) [
        | true ↦ λ p. changes_lead es h.1
        | false ↦ λ p. ((h.0.0, h.0.1, differ_from_test e.1.committed e.1.pending p), changes_lead es h.1)
      ] refl

  listed : (x : Row) (h : Held) (es : HeldRows) → eq_by_cmp ratio_cmp h.committed h.pending ≡ false → lookup (same_row x) es ≡ Some h → has_row (changed_rows (held_changes es)) x ≡ true
  listed x h [] f e = let bad : ⊥ = cc in absurd bad
  listed x h (e ∷ es) f found =
      elim (same_row x e.0) as (λ b. same_row x e.0 ≡ b → cond b (Some e.1) (lookup (same_row x) es) ≡ Some h → has_row (changed_rows (held_changes (e ∷ es))) x ≡ true) [
        | true ↦ λ p q.
            let same : e.1 ≡ h = cc in
            let test : eq_by_cmp ratio_cmp e.1.committed e.1.pending ≡ false = ap (λ (h : Held). eq_by_cmp ratio_cmp h.committed h.pending) same ∙ f in
            ap (λ b. has_row (changed_rows (map change_of (cond (not b) (e ∷ filter differs es) (filter differs es)))) x) test ∙ ap (λ b. b || has_row (changed_rows (held_changes es)) x) p
        | false ↦ λ p q.
            let rest = listed x h es f q in
            elim (differs e) as (λ b. has_row (changed_rows (map change_of (cond b (e ∷ filter differs es) (filter differs es)))) x ≡ true) [
              | true ↦ ap (λ b. same_row x e.0 || b) rest ∙ or-true (same_row x e.0)
              | false ↦ rest
            ]
      ] refl found

  complete : (es : HeldRows) → HoldsStep es A B → (x : Row) → at A x ≢ at B x → has_row (changed_rows (held_changes es)) x ≡ true
  complete es step x n =
      elim (lookup (same_row x) es) as (λ o. lookup (same_row x) es ≡ o → MatchOption o (at B x ≡ at A x) (λ h. (h.committed ≡ at A x) × (h.pending ≡ at B x)) → has_row (changed_rows (held_changes es)) x ≡ true) [
        | None ↦ λ p h. absurd (n (sym h))
        | Some held ↦ λ p h. listed x held es (differ_test held.committed held.pending (λ e. n (sym h.0 ∙ e ∙ h.1))) p
      ] refl (step x)

  pub held_changes_lead : (es : HeldRows) → AreRising (held_rows es) → All (λ e. lookup (same_row e.0) es ≡ Some e.1) es → HoldsStep es A B → IsChangeList (held_changes es) A B
  held_changes_lead es rising found step =
      let P : Row → Option Held → Type 0 = λ x o. MatchOption o (at B x ≡ at A x) (λ h. (h.committed ≡ at A x) × (h.pending ≡ at B x)) in
      let each : All Holds es = λ k d below. subst (P _) (found k d below) (step _) in
      record {
        rising = rising_changes es rising;
        each = All-from_recursion Leads (held_changes es) (changes_lead es (recursion_from_All Holds es each));
        complete = complete es step;
      }

-- ---- what changes make of a dataset
unchanged : (A : Dataset) (cs : List Change) (x : Row) → has_row (changed_rows cs) x ≡ false → at (applied A cs) x ≡ at A x
unchanged A [] x h = refl
unchanged A (c ∷ cs) x h =
    let p = or_parts (same_row x c.row) (has_row (changed_rows cs) x) h in
    unchanged (set_at c.row c.new A) cs x p.1 ∙ at-set_at c.row c.new A x ∙ ap (λ b. cond b c.new (at A x)) p.0

changed : (A B : Dataset) (cs : List Change) (x : Row) → AllByRecursion (λ c. c.new ≡ at B c.row) cs → has_row (changed_rows cs) x ≡ true → at (applied A cs) x ≡ at B x
changed A B [] x h k = absurd (true≢false (sym k))
changed A B (c ∷ cs) x h k =
    let N = set_at c.row c.new A in
    elim (has_row (changed_rows cs) x) as (λ b. has_row (changed_rows cs) x ≡ b → (same_row x c.row || b) ≡ true → at (applied N cs) x ≡ at B x) [
      | true ↦ λ p q. changed N B cs x h.1 p
      | false ↦ λ p q.
          let here : same_row x c.row ≡ true = sym (or-false (same_row x c.row)) ∙ q in
          unchanged N cs x p ∙ at-set_at c.row c.new A x ∙ ap (λ b. cond b c.new (at A x)) here ∙ h.0 ∙ ap (at B) (sym (same_row-equal x c.row here))
    ] refl k

pub change_list_leads_there : (cs : List Change) (A B : Dataset) → IsChangeList cs A B → AreChangesOf cs A × (applied A cs ≡ B)
change_list_leads_there cs A B h =
    let news : AllByRecursion (λ c. c.new ≡ at B c.row) cs = recursion_from_All (λ (c : Change). c.new ≡ at B c.row) cs (λ k d below. (h.each k d below).1) in (
      record { rising = h.rising; each = λ k d below. ((h.each k d below).0, (h.each k d below).2) },
      same_weights (applied A cs) B (λ x.
          elim (has_row (changed_rows cs) x) as (λ b. has_row (changed_rows cs) x ≡ b → at (applied A cs) x ≡ at B x) [
            | true ↦ λ p. changed A B cs x news p
            | false ↦ λ p. unchanged A cs x p ∙ same_unless (at A x) (at B x) (λ n. true≢false (sym (h.complete x n) ∙ p))
          ] refl),
    )

-- each row ends with its new weight, since no later change is of it
news_stand : (cs : List Change) (A : Dataset) → AreRising (changed_rows cs) → AllByRecursion (λ c. c.new ≡ at (applied A cs) c.row) cs
unfolding IsStrictlySortedBy
news_stand [] A h = tt
news_stand (c ∷ cs) A h =
    let N = set_at c.row c.new A in (
      sym (unchanged N cs c.row (absent_below c.row (changed_rows cs) h.0) ∙ at-set_at c.row c.new A c.row ∙ ap (λ b. cond b c.new (at A c.row)) (same_row-itself c.row)),
      news_stand cs N h.1,
    )

pub changes_are_change_list : (cs : List Change) (A : Dataset) → AreChangesOf cs A → IsChangeList cs A (applied A cs)
changes_are_change_list cs A h =
    let news = All-from_recursion (λ (c : Change). c.new ≡ at (applied A cs) c.row) cs (news_stand cs A h.rising) in
    record {
      rising = h.rising;
      each = λ k d below. ((h.each k d below).0, news k d below, (h.each k d below).1);
      complete = λ x n.
          elim (has_row (changed_rows cs) x) as (λ b. has_row (changed_rows cs) x ≡ b → b ≡ true) [
            | true ↦ λ p. refl
            | false ↦ λ p. absurd (n (sym (unchanged A cs x p)))
          ] refl;
    }

-- changes that rise have rows that rise
below_all : (c : Change) (cs : List Change) → AllByRecursion (λ d. row_cmp c.row d.row ≡ Less) cs → AllByRecursion (λ x. row_cmp c.row x ≡ Less) (changed_rows cs)
below_all c [] h = tt
below_all c (d ∷ ds) h = (h.0, below_all c ds h.1)

pub rising_rows : (cs : List Change) → IsStrictlySortedBy (λ a b. row_cmp a.row b.row) cs → AreRising (changed_rows cs)
unfolding IsStrictlySortedBy
rising_rows [] h = tt
rising_rows (c ∷ cs) h = (below_all c cs h.0, rising_rows cs h.1)
