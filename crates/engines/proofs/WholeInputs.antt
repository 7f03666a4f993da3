-- What parts that are made anew of whole inputs stand for.
use Rattle.std.specs.Prelude.{◌≡◌, ◌≢◌, true, All, Bool, List, refl}
use Rattle.std.proofs.Common.{sym, ap, subst, ◌∙◌}
use Rattle.ratios.specs.Ratio.{zero_ratio}
use Rattle.datasets.specs.Dataset.{Dataset, at, empty}
use Rattle.datasets.specs.Entries.{Row}
use Rattle.datasets.proofs.Weights.{at-empty}
use Rattle.weighted_set.specs.declared.weighted.Change.{Change}
use Rattle.weighted_set.specs.Changes.{AreChangesOf, IsChangeList, applied}
use Rattle.weighted_set.specs.Held.{HeldDatasets}
use Rattle.weighted_set.specs.Parts.{FactoredInRange, StoreParts, committed_part}
use Rattle.weighted_set.specs.Standing.{MayBecome}
use Rattle.weighted_set.specs.declared.part_op.PartOp.{Ghosts}
use Rattle.weighted_set.specs.declared.part_op.Side.TheVariants.{Left, Right}
use Rattle.weighted_set.proofs.ChangeLists.{change_list_leads_there}
use Rattle.weighted_set.proofs.Parts.{part_of-empty}
use Rattle.engines.specs.Engines.{plain_standing, settled_standing, whole_standing}
use Rattle.engines.specs.Products.{changes_in_range}
use Rattle.engines.specs.Standing.{ArePartsOf}
use Rattle.engines.specs.WholeInputs.{IsMadeOf}
use Rattle.engines.proofs.Engine.{MayBecome-restated, rows_of_changes}
use Rattle.engines.proofs.Products.{changes_in_range-factored}

-- ---- the parts of an input
-- each row that is put has a weight
pub rows_of_all : (TakesRow : Row → Type 0) (A : Dataset) (rows items : List Change) → rows ≡ items → ((x : Row) → at A x ≢ zero_ratio → TakesRow x) → IsChangeList items empty A → All (λ c. TakesRow c.row) rows
rows_of_all TakesRow A rows items same takes h =
    subst (All (λ c. TakesRow c.row)) (sym same) (rows_of_changes TakesRow empty A items (λ x n. absurd (n (at-empty x))) takes h)

-- the products of all rows are in range where the factored weights are
pub products_of_all : (keys : Row → Dataset) (A : Dataset) (rows items : List Change) → rows ≡ items → IsChangeList items empty A → FactoredInRange keys A → changes_in_range keys rows ≡ true
products_of_all keys A rows items same h factored = ap (changes_in_range keys) same ∙ changes_in_range-factored keys items empty A h factored

-- all rows, put where there were none, are the input
pub parts_of_all : (keys old new : Row → Dataset) (A : Dataset) (rows items : List Change) → rows ≡ items → IsChangeList items empty A → ((k : Row) → old k ≡ empty) → (ArePartsOf keys old empty → ArePartsOf keys new (applied empty rows)) → ArePartsOf keys new A
parts_of_all keys old new A rows items same h none put =
    subst (ArePartsOf keys new) (ap (applied empty) same ∙ (change_list_leads_there items empty A h).1) (put (λ k. none k ∙ sym (part_of-empty keys k)))

-- ---- the changes of an input
pub changes_of_committed : (changes : List Change) (input : HeldDatasets) (A C : Dataset) → input.committed ≡ A → IsChangeList changes A C → AreChangesOf changes input.committed × (applied input.committed changes ≡ C)
changes_of_committed changes input A C is h = subst (λ X. AreChangesOf changes X × (applied X changes ≡ C)) (sym is) (change_list_leads_there changes A C h)

-- ---- both inputs
-- the committed inputs fit, so their factored weights are in range
pub factored_committed : (keys : Row → Dataset) (A : Dataset) (old new : HeldDatasets) → new.committed ≡ old.committed → old.committed ≡ A → FactoredInRange keys A → FactoredInRange keys new.committed
factored_committed keys A old new same is = subst (FactoredInRange keys) (sym (same ∙ is))

-- the changes can be made to parts that are made anew
pub made_anew : {O : Type 0} (of : Ghosts O) (op : O) {left_store right_store : StoreParts} {L R : Dataset} {left_input right_input : HeldDatasets} {left right : List Change} {A B C D : Dataset}
    → IsMadeOf (of.keys op Left) L left_store → IsMadeOf (of.keys op Right) R right_store → L ≡ left_input.committed → R ≡ right_input.committed
    → MayBecome (plain_standing of op left_input right_input) left right A B C D → MayBecome (settled_standing of op left_store right_store) left right A B C D
made_anew of op {left_store = left_store} {right_store = right_store} {left_input = left_input} {right_input = right_input} of_left of_right e f m =
    MayBecome-restated (plain_standing of op left_input right_input) (settled_standing of op left_store right_store) refl refl m (record {
      held = record {
        of_left = subst (ArePartsOf (of.keys op Left) (committed_part left_store)) (e ∙ m.stands.left_is) of_left.parts;
        of_right = subst (ArePartsOf (of.keys op Right) (committed_part right_store)) (f ∙ m.stands.right_is) of_right.parts;
      };
      settled = record { left_same = of_left.settled; right_same = of_right.settled };
    })

-- where nothing is pending, the inputs are the committed ones alone
pub plain_first : {O : Type 0} (of : Ghosts O) (op : O) (left_input right_input : HeldDatasets) (pending : Bool) {left right : List Change} {A B C D : Dataset}
    → MayBecome (whole_standing of op left_input right_input pending) left right A B C D → MayBecome (plain_standing of op left_input right_input) left right A B C D
plain_first of op left_input right_input pending m =
    MayBecome-restated (whole_standing of op left_input right_input pending) (plain_standing of op left_input right_input) refl refl m m.stands.0
