-- The changes of the outputs of keys.
use Rattle.std.specs.Prelude.{◌≡◌, ◌≢◌, Bool, true, false, cond, ◌||◌, List, [], ◌∷◌, ◌++◌, refl}
use Rattle.std.specs.List.{dedup, dedup_from}
use Rattle.std.proofs.Common.{sym, ap, subst, ◌∙◌, true≢false}
use Rattle.std.proofs.Math.Bool.{or-true}
use Rattle.std.proofs.lemmas.List.{map-append}
use Rattle.std.proofs.lemmas.List.Elements.{All-append, All-from_recursion}
use Rattle.std.proofs.lemmas.List.Folds.{list_any-append}
use Rattle.ratios.specs.Ratio.{zero_ratio}
use Rattle.record_text.specs.Order.{row_eq}
use Rattle.record_text.specs.OrderLaws.{row_ties}
use Rattle.datasets.specs.Dataset.{Dataset, at, rows}
use Rattle.datasets.specs.Entries.{AreRising, Row, has_row, same_row}
use Rattle.datasets.proofs.Rows.{same_row-equal}
use Rattle.datasets.proofs.Weights.{at-absent}
use Rattle.weighted_set.specs.declared.weighted.Change.{Change}
use Rattle.weighted_set.specs.Changes.{IsChangeList, changed_rows}
use Rattle.weighted_set.proofs.Parts.{at-present}
use Rattle.engines.specs.Staging.{AreOutputChanges}

has_row-last : (done : List Row) (k x : Row) → same_row x k ≡ false → has_row (done ++ k ∷ []) x ≡ true → has_row done x ≡ true
has_row-last done k x n h = only (has_row done x) (same_row x k) n (sym (list_any-append (same_row x) done (k ∷ [])) ∙ h)
  where
    only : (a b : Bool) → b ≡ false → (a || (b || false)) ≡ true → a ≡ true
    only true b p q = refl
    only false true p q = absurd (true≢false p)
    only false false p q = q

has_change-append : (cs ds : List Change) (x : Row) → has_row (changed_rows (cs ++ ds)) x ≡ (has_row (changed_rows cs) x || has_row (changed_rows ds) x)
has_change-append cs ds x = ap (λ xs. has_row xs x) (map-append (λ (c : Change). c.row) cs ds) ∙ list_any-append (same_row x) (changed_rows cs) (changed_rows ds)

module _ (owner : Row → Row) (before after : Row → Dataset) where
  abbrev pub IsOutputChange : Change → Type 0
  IsOutputChange c = (c.old ≡ at (before (owner c.row)) c.row) × (c.new ≡ at (after (owner c.row)) c.row) × (c.old ≢ c.new)

  pub none_changed : AreOutputChanges owner before after [] []
  none_changed = record { each = All-from_recursion IsOutputChange [] tt; complete = λ x h n. absurd (true≢false (sym h)) }

  -- ---- the outputs of one more key
  module _ (k : Row) (owned_before : (z : Row) → at (before k) z ≢ zero_ratio → owner z ≡ k) (owned_after : (z : Row) → at (after k) z ≢ zero_ratio → owner z ≡ k) where
    -- a row whose weight changes among a key's outputs is of that key
    owner_is : (x : Row) → at (before k) x ≢ at (after k) x → owner x ≡ k
    owner_is x n =
        elim (has_row (rows (before k)) x) as (λ b. has_row (rows (before k)) x ≡ b → owner x ≡ k) [
          | true ↦ λ p. owned_before x (at-present (before k) x p)
          | false ↦ λ p.
              elim (has_row (rows (after k)) x) as (λ b. has_row (rows (after k)) x ≡ b → owner x ≡ k) [
                | true ↦ λ q. owned_after x (at-present (after k) x q)
                | false ↦ λ q. absurd (n (at-absent (before k) x p ∙ sym (at-absent (after k) x q)))
              ] refl
        ] refl

    owned_change : (c : Change) → (c.old ≡ at (before k) c.row) × (c.new ≡ at (after k) c.row) × (c.old ≢ c.new) → IsOutputChange c
    owned_change c h =
        let here = sym (owner_is c.row (λ e. h.2 (h.0 ∙ e ∙ sym h.1))) in (
          subst (λ y. c.old ≡ at (before y) c.row) here h.0,
          subst (λ y. c.new ≡ at (after y) c.row) here h.1,
          h.2,
        )

    pub staged_more : (cs ds : List Change) → IsChangeList ds (before k) (after k) → (done : List Row) → AreOutputChanges owner before after done cs → AreOutputChanges owner before after (done ++ k ∷ []) (cs ++ ds)
    staged_more cs ds change done staged = record {
      each = All-append IsOutputChange cs ds staged.each (λ i d below. owned_change _ (change.each i d below));
      complete = λ x h n.
          has_change-append cs ds x
          ∙ (elim (same_row (owner x) k) as (λ b. same_row (owner x) k ≡ b → (has_row (changed_rows cs) x || has_row (changed_rows ds) x) ≡ true) [
            | true ↦ λ p.
                let here = same_row-equal (owner x) k p in
                ap (λ b. has_row (changed_rows cs) x || b) (change.complete x (subst (λ y. at (before y) x ≢ at (after y) x) here n)) ∙ or-true (has_row (changed_rows cs) x)
            | false ↦ λ p. ap (λ b. b || has_row (changed_rows ds) x) (staged.complete x (has_row-last done k (owner x) p h) n)
          ] refl);
    }

  -- ---- all keys
  pub staged_step : (done : List Row) (cs : List Change) (F G : Dataset) → AreOutputChanges owner before after done cs → AreRising (changed_rows cs)
      → ((x : Row) → at F x ≡ at (before (owner x)) x) → ((x : Row) → at G x ≡ at (after (owner x)) x)
      → ((k : Row) → has_row done k ≡ false → before k ≡ after k) → IsChangeList cs F G
  staged_step done cs F G staged rising f g untouched = record {
    rising = rising;
    each = λ i d below. let h = staged.each i d below in (h.0 ∙ sym (f _), h.1 ∙ sym (g _), h.2);
    complete = λ x n.
        elim (has_row done (owner x)) as (λ b. has_row done (owner x) ≡ b → has_row (changed_rows cs) x ≡ true) [
          | true ↦ λ p. staged.complete x p (λ e. n (f x ∙ e ∙ sym (g x)))
          | false ↦ λ p. absurd (n (f x ∙ ap (λ (A : Dataset). at A x) (untouched (owner x) p) ∙ sym (g x)))
        ] refl;
  }

-- ---- changes in row order
abbrev same_change : Change → Change → Bool
same_change a b = row_eq a.row b.row

rows_of_dedup_from : (x : Row) (c : Change) (cs : List Change) → has_row (changed_rows (dedup_from same_change c cs)) x ≡ has_row (changed_rows (c ∷ cs)) x
rows_of_dedup_from x c [] = refl
rows_of_dedup_from x c (d ∷ ds) =
    let same = rows_of_dedup_from x c ds in
    let other = rows_of_dedup_from x d ds in
    (elim (same_change d c) as (λ b. same_change d c ≡ b → has_row (changed_rows (cond b (dedup_from same_change c ds) (c ∷ dedup_from same_change d ds))) x ≡ (same_row x c.row || (same_row x d.row || has_row (changed_rows ds) x))) [
      | true ↦ λ q. same ∙ again (same_row x c.row) (same_row x d.row) (has_row (changed_rows ds) x) (ap (same_row x) (same_row-equal d.row c.row (sym (row_ties d.row c.row) ∙ q)))
      | false ↦ λ q. ap (λ b. same_row x c.row || b) other
    ]) refl
  where
    again : (a b c : Bool) → b ≡ a → (a || c) ≡ (a || (b || c))
    again true b c e = refl
    again false b c e = sym (ap (λ d. d || c) e)

pub rows_of_dedup : (x : Row) (cs : List Change) → has_row (changed_rows (dedup same_change cs)) x ≡ has_row (changed_rows cs) x
rows_of_dedup x [] = refl
rows_of_dedup x (c ∷ cs) = rows_of_dedup_from x c cs
