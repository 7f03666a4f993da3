-- What outputs worked out key by key say of the whole output.
use Rattle.std.specs.Prelude.{◌≡◌, ◌≢◌, ◌↔◌, ◌⊎◌, ℕ, ◌+◌, ◌*◌, ◌≤◌, Bool, true, false, All, List, refl}
use Rattle.std.proofs.Common.{sym, ap, subst, ◌∙◌, inl, inr, true≢false}
use Rattle.std.proofs.lemmas.Bool.{false_from_ne_true}
use Rattle.ratios.specs.Ratio.{zero_ratio}
use Rattle.datasets.specs.Dataset.{Dataset, at}
use Rattle.datasets.specs.Entries.{AreRising, Row, has_row, is_zero}
use Rattle.datasets.proofs.Rows.{other_if_not_is_zero, zero_if_is_zero}
use Rattle.weighted_set.specs.declared.weighted.Change.{Change}
use Rattle.weighted_set.specs.Changes.{IsChangeList, applied, changed_rows}
use Rattle.weighted_set.specs.Held.{AllInRange}
use Rattle.weighted_set.specs.Parts.{FactoredInRange, part_of}
use Rattle.weighted_set.specs.Standing.{MayBecome, Meaning, Standing}
use Rattle.weighted_set.specs.declared.part_op.PartOp.{Ghosts}
use Rattle.weighted_set.proofs.ChangeLists.{change_list_leads_there}
use Rattle.engines.specs.Engines.{keyed_standing, settled_by, settled_standing}
use Rattle.engines.specs.Products.{changes_in_range}
use Rattle.engines.specs.Standing.{ArePartsOf, HoldParts, PutInputs}
use Rattle.engines.specs.Staging.{AreOutputChanges, outputs_by}
use Rattle.engines.specs.Ticks.{changes_ticks, keys_ticks}
use Rattle.engines.specs.Work.{part_work}
use Rattle.weighted_set.specs.Parts.{StoreParts, committed_part, pending_part}
use Rattle.engines.proofs.Products.{FactoredInRange-applied, changes_in_range-factored}
use Rattle.engines.proofs.Staged.{staged_step}
use Rattle.engines.proofs.TouchedKeys.{touched_keys_are}
use Rattle.engines.proofs.WithinWork.{keys-within_work}

-- a changed row has a weight before or after
pub rows_of_changes : (TakesRow : Row → Type 0) (A B : Dataset) (cs : List Change) → ((x : Row) → at A x ≢ zero_ratio → TakesRow x) → ((x : Row) → at B x ≢ zero_ratio → TakesRow x) → IsChangeList cs A B → All (λ c. TakesRow c.row) cs
rows_of_changes TakesRow A B cs before after h k d below = row_of_change _ (h.each k d below)
  where
    row_of_change : (c : Change) → (c.old ≡ at A c.row) × (c.new ≡ at B c.row) × (c.old ≢ c.new) → TakesRow c.row
    row_of_change c e =
        elim (is_zero (at A c.row)) as (λ b. is_zero (at A c.row) ≡ b → TakesRow c.row) [
          | true ↦ λ p. after c.row (λ z. e.2 (e.0 ∙ zero_if_is_zero (at A c.row) p ∙ sym z ∙ sym e.1))
          | false ↦ λ p. before c.row (other_if_not_is_zero (at A c.row) p)
        ] refl

-- what stands for the inputs may be said in another way
pub MayBecome-restated : (S T : Standing) {left right : List Change} {A B C D : Dataset} → T.meaning.takes ≡ S.meaning.takes → T.meaning.fits ≡ S.meaning.fits
    → MayBecome S left right A B C D → T.StandsFor A B → MayBecome T left right A B C D
MayBecome-restated S T {A = A} {B = B} {C = C} {D = D} takes fits m restated = record {
  stands = restated;
  left_changes = m.left_changes;
  right_changes = m.right_changes;
  left_in_range = m.left_in_range;
  right_in_range = m.right_in_range;
  fits_before = ap (λ f. f A B) fits ∙ m.fits_before;
  takes_before = ap (λ t. t A B) takes ∙ m.takes_before;
  takes_after = ap (λ t. t C D) takes ∙ m.takes_after;
}

-- where nothing is pending, the stores hold the parts alone
pub settled_first : {O : Type 0} (of : Ghosts O) (op : O) (left_store right_store : StoreParts) (pending : Bool) {left right : List Change} {A B C D : Dataset} → pending ≡ false
    → MayBecome (keyed_standing of op left_store right_store pending) left right A B C D → MayBecome (settled_standing of op left_store right_store) left right A B C D
settled_first of op left_store right_store pending idle m =
    MayBecome-restated (keyed_standing of op left_store right_store pending) (settled_standing of op left_store right_store) refl refl m (record { held = m.stands.0; settled = m.stands.1 idle })

-- the laws of an operator that the engine needs
pub record Laws (left_keys right_keys : Row → Dataset) (owner : Row → Row) (outputs : Row → Dataset → Dataset → Dataset) (part_fits : Row → Dataset → Dataset → Bool) (means : Meaning) (TakesPart : Row → Dataset → Dataset → Type 0) : Type 0 where
  pub together : (A B : Dataset) (z : Row) → means.takes A B ≡ true → at (means.output A B) z ≡ at (outputs (owner z) (part_of left_keys (owner z) A) (part_of right_keys (owner z) B)) z
  pub by_part : (A B : Dataset) → means.takes A B ≡ true → AllInRange A → AllInRange B → (means.fits A B ≡ true) ↔ (FactoredInRange left_keys A × FactoredInRange right_keys B × ((k : Row) → part_fits k (part_of left_keys k A) (part_of right_keys k B) ≡ true))
  pub takes_parts : (A B : Dataset) (k : Row) → means.takes A B ≡ true → TakesPart k (part_of left_keys k A) (part_of right_keys k B)

module _ {left_keys right_keys : Row → Dataset} {owner : Row → Row} {outputs : Row → Dataset → Dataset → Dataset} {part_fits : Row → Dataset → Dataset → Bool} {means : Meaning} {TakesPart : Row → Dataset → Dataset → Type 0}
    (laws : Laws left_keys right_keys owner outputs part_fits means TakesPart) where
  parts_are_taken : (P Q : Row → Dataset) (A B : Dataset) → means.takes A B ≡ true → HoldParts left_keys right_keys P Q A B → (k : Row) → TakesPart k (P k) (Q k)
  parts_are_taken P Q A B t h k =
      subst (λ X. TakesPart k X (Q k)) (sym (h.of_left k)) (subst (λ Y. TakesPart k (part_of left_keys k A) Y) (sym (h.of_right k)) (laws.takes_parts A B k t))

  part_fits_is : (P Q : Row → Dataset) (A B : Dataset) → HoldParts left_keys right_keys P Q A B → (k : Row) → part_fits k (P k) (Q k) ≡ part_fits k (part_of left_keys k A) (part_of right_keys k B)
  part_fits_is P Q A B h k = ap (λ X. part_fits k X (Q k)) (h.of_left k) ∙ ap (part_fits k (part_of left_keys k A)) (h.of_right k)

  output_is : (P Q : Row → Dataset) (A B : Dataset) → means.takes A B ≡ true → HoldParts left_keys right_keys P Q A B → (x : Row) → at (means.output A B) x ≡ at (outputs_by outputs P Q (owner x)) x
  output_is P Q A B t h x =
      let k = owner x in
      laws.together A B x t ∙ ap (λ X. at (outputs k X (part_of right_keys k B)) x) (sym (h.of_left k)) ∙ ap (λ Y. at (outputs k (P k) Y) x) (sym (h.of_right k))

  -- changes with a product out of range lead to inputs that don't fit
  pub misfits_put : {old_left old_right : StoreParts} {left right : List Change} (A B C D : Dataset) → MayBecome (settled_by left_keys right_keys means old_left old_right) left right A B C D → AllInRange (applied A left) → AllInRange (applied B right)
      → (changes_in_range left_keys left ≡ false) ⊎ (changes_in_range right_keys right ≡ false) → means.fits C D ≡ false
  misfits_put {left = left} {right = right} A B C D m left_in_range right_in_range out =
      let left_range : AllInRange C = subst AllInRange (change_list_leads_there left A C m.left_changes).1 left_in_range in
      let right_range : AllInRange D = subst AllInRange (change_list_leads_there right B D m.right_changes).1 right_in_range in
      false_from_ne_true (means.fits C D) (λ f.
      let factored = (laws.by_part C D m.takes_after left_range right_range).0 f in
      elim out as (λ _. ⊥) [
        | inl p ↦ true≢false (sym (changes_in_range-factored left_keys left A C m.left_changes factored.0) ∙ p)
        | inr p ↦ true≢false (sym (changes_in_range-factored right_keys right B D m.right_changes factored.1) ∙ p)
      ])

  module _ {left right : List Change} {old_left old_right new_left new_right : StoreParts} {touched : List Row} (put : PutInputs left_keys right_keys left right old_left old_right new_left new_right touched)
      (A B C D : Dataset) (m : MayBecome (settled_by left_keys right_keys means old_left old_right) left right A B C D) where
    left_is : applied A left ≡ C
    left_is = (change_list_leads_there left A C m.left_changes).1

    right_is : applied B right ≡ D
    right_is = (change_list_leads_there right B D m.right_changes).1

    held_before : HoldParts left_keys right_keys (committed_part new_left) (committed_part new_right) A B
    held_before = record { of_left = λ k. put.left_committed k ∙ m.stands.held.of_left k; of_right = λ k. put.right_committed k ∙ m.stands.held.of_right k }

    pub held_after : HoldParts left_keys right_keys (pending_part new_left) (pending_part new_right) C D
    held_after =
        let s = m.stands in
        record {
          of_left = subst (ArePartsOf left_keys (pending_part new_left)) left_is (put.left_pending A (λ k. s.settled.left_same k ∙ s.held.of_left k));
          of_right = subst (ArePartsOf right_keys (pending_part new_right)) right_is (put.right_pending B (λ k. s.settled.right_same k ∙ s.held.of_right k));
        }

    pub taken_before : (k : Row) → TakesPart k (committed_part new_left k) (committed_part new_right k)
    taken_before = parts_are_taken (committed_part new_left) (committed_part new_right) A B m.takes_before held_before

    pub taken_after : (k : Row) → TakesPart k (pending_part new_left k) (pending_part new_right k)
    taken_after = parts_are_taken (pending_part new_left) (pending_part new_right) C D m.takes_after held_after

    left_same : (k : Row) → has_row touched k ≡ false → committed_part new_left k ≡ pending_part new_left k
    left_same k n = put.left_committed k ∙ sym (m.stands.settled.left_same k) ∙ sym (put.untouched k n).0

    right_same : (k : Row) → has_row touched k ≡ false → committed_part new_right k ≡ pending_part new_right k
    right_same k n = put.right_committed k ∙ sym (m.stands.settled.right_same k) ∙ sym (put.untouched k n).1

    pub engine_step : (cs : List Change) (keys : List Row) → keys ≡ touched → AreOutputChanges owner (outputs_by outputs (committed_part new_left) (committed_part new_right)) (outputs_by outputs (pending_part new_left) (pending_part new_right)) keys cs → AreRising (changed_rows cs)
        → IsChangeList cs (means.output A B) (means.output C D)
    engine_step cs keys same staged rising =
        staged_step owner (outputs_by outputs (committed_part new_left) (committed_part new_right)) (outputs_by outputs (pending_part new_left) (pending_part new_right)) keys cs (means.output A B) (means.output C D) staged rising
        (output_is (committed_part new_left) (committed_part new_right) A B m.takes_before held_before)
        (output_is (pending_part new_left) (pending_part new_right) C D m.takes_after held_after)
        (λ k n.
        let apart = ap (λ ks. has_row ks k) (sym same) ∙ n in
        ap (λ X. outputs k X (committed_part new_right k)) (left_same k apart) ∙ ap (outputs k (pending_part new_left k)) (right_same k apart))

    -- what is put, and then read and handed on at the touched keys, is within the work
    pub ticks_after : (keys : List Row) → keys ≡ touched → (a b c : ℕ)
        → b ≤ a + (changes_ticks left_keys left + changes_ticks right_keys right)
        → c ≤ b + keys_ticks new_left new_right keys → c ≤ a + 8 * part_work left_keys right_keys A B C D
    ticks_after keys same a b c =
        keys-within_work left_keys right_keys left right A B C D m.left_changes m.right_changes new_left new_right held_before held_after keys
        (same ∙ touched_keys_are left_keys right_keys left right A B C D m.left_changes m.right_changes touched put.rising put.changed) a b c

    -- ---- what fits
    factored_before : FactoredInRange left_keys A × FactoredInRange right_keys B
    factored_before = let fit = (laws.by_part A B m.takes_before m.left_in_range m.right_in_range).0 m.fits_before in (fit.0, fit.1)

    left_factored : FactoredInRange left_keys C
    left_factored = subst (FactoredInRange left_keys) left_is (FactoredInRange-applied left_keys left A put.left_products factored_before.0)

    right_factored : FactoredInRange right_keys D
    right_factored = subst (FactoredInRange right_keys) right_is (FactoredInRange-applied right_keys right B put.right_products factored_before.1)

    pub fit_before : (k : Row) → part_fits k (committed_part new_left k) (committed_part new_right k) ≡ true
    fit_before k =
        part_fits_is (committed_part new_left) (committed_part new_right) A B held_before k ∙ ((laws.by_part A B m.takes_before m.left_in_range m.right_in_range).0 m.fits_before).2 k

    module _ (left_in_range : AllInRange (applied A left)) (right_in_range : AllInRange (applied B right)) where
      left_range : AllInRange C
      left_range = subst AllInRange left_is left_in_range

      right_range : AllInRange D
      right_range = subst AllInRange right_is right_in_range

      part_fits_after : ((k : Row) → has_row touched k ≡ true → part_fits k (pending_part new_left k) (pending_part new_right k) ≡ true) → (k : Row) → part_fits k (pending_part new_left k) (pending_part new_right k) ≡ true
      part_fits_after here k =
          elim (has_row touched k) as (λ b. has_row touched k ≡ b → part_fits k (pending_part new_left k) (pending_part new_right k) ≡ true) [
            | true ↦ here k
            | false ↦ λ n. ap (λ X. part_fits k X (pending_part new_right k)) (sym (left_same k n)) ∙ ap (part_fits k (committed_part new_left k)) (sym (right_same k n)) ∙ fit_before k
          ] refl

      pub fits_after : (keys : List Row) → keys ≡ touched → ((k : Row) → has_row keys k ≡ true → part_fits k (pending_part new_left k) (pending_part new_right k) ≡ true) → means.fits C D ≡ true
      fits_after keys same here =
          (laws.by_part C D m.takes_after left_range right_range).1 (
            left_factored,
            right_factored,
            λ k. sym (part_fits_is (pending_part new_left) (pending_part new_right) C D held_after k) ∙ part_fits_after (λ k h. here k (ap (λ ks. has_row ks k) same ∙ h)) k,
          )

      pub misfits_after : (k : Row) × (part_fits k (pending_part new_left k) (pending_part new_right k) ≡ false) → means.fits C D ≡ false
      misfits_after p =
          false_from_ne_true (means.fits C D) (λ f.
          true≢false (sym (part_fits_is (pending_part new_left) (pending_part new_right) C D held_after p.0 ∙ ((laws.by_part C D m.takes_after left_range right_range).0 f).2 p.0) ∙ p.1))
