-- What tests keep of engines, as their inputs change.
use Rattle.std.specs.Prelude.{◌≡◌, All, Bool, true, false, if◌then◌else◌, List}
use Rattle.std.proofs.Common.{ap, ◌∙◌}
use Rattle.record_text.specs.KindLists.{kinds_of}
use Rattle.datasets.specs.Dataset.{Dataset, empty}
use Rattle.plan_model.proofs.TypedSteps.{IsTyped-empty}
use Rattle.plan_model.specs.Types.{HasColumns}
use Rattle.weighted_set.proofs.ChangeLists.{changes_are_change_list}
use Rattle.weighted_set.specs.Changes.{AreChangesOf, applied}
use Rattle.weighted_set.specs.Held.{AllInRange}
use Rattle.weighted_set.specs.Standing.{MayBecome, Meaning, Standing}
use Rattle.weighted_set.specs.declared.weighted.Change.{Change}
use Rattle.trial_rows.proofs.ChangedColumns.{HasColumns-applied}
use Rattle.trial_rows.specs.Columns.{two_ints}
use Rattle.engine_tests.specs.Trials.{Serves}

module _ {E : Type 0} (of : E → Standing) (engine : E) (A B : Dataset) (left right : List Change) (serves : Serves of engine A B) where
  module _ (left_rows : All (λ (c : Change). kinds_of c.row ≡ two_ints) left) (right_rows : All (λ (c : Change). kinds_of c.row ≡ two_ints) right) where
    pub left_applied : HasColumns two_ints (applied A left)
    left_applied = HasColumns-applied two_ints A left serves.left_columns left_rows

    pub right_applied : HasColumns two_ints (applied B right)
    right_applied = HasColumns-applied two_ints B right serves.right_columns right_rows

    -- the engine may be asked for changes of rows of two numbers
    pub MayBecome-served : AllInRange A → AllInRange B → AreChangesOf left A → AreChangesOf right B → MayBecome (of engine) left right A B (applied A left) (applied B right)
    MayBecome-served left_in_range right_in_range can_left can_right = record {
      stands = serves.stands;
      left_changes = changes_are_change_list left A can_left;
      right_changes = changes_are_change_list right B can_right;
      left_in_range = left_in_range;
      right_in_range = right_in_range;
      fits_before = serves.fits;
      takes_before = serves.takes A B serves.left_columns serves.right_columns;
      takes_after = serves.takes (applied A left) (applied B right) left_applied right_applied;
    }

-- the engine serves what is committed
pub Serves-settled : {E : Type 0} (of : E → Standing) (old new : E) (A B C D : Dataset) (is_kept : Bool) → Serves of old A B → HasColumns two_ints C → HasColumns two_ints D → (of old).meaning.fits C D ≡ true
    → (of new).is_pending ≡ false → (of new).StandsFor (if is_kept then C else A) (if is_kept then D else B) → (of new).meaning ≡ (of old).meaning
    → Serves of new (if is_kept then C else A) (if is_kept then D else B)
Serves-settled of old new A B C D true serves left_columns right_columns fits idle stands same = record {
  left_columns = left_columns;
  right_columns = right_columns;
  idle = idle;
  stands = stands;
  fits = ap (λ (m : Meaning). m.fits C D) same ∙ fits;
  takes = λ X Y left right. ap (λ (m : Meaning). m.takes X Y) same ∙ serves.takes X Y left right;
}
Serves-settled of old new A B C D false serves left_columns right_columns fits idle stands same = record {
  left_columns = serves.left_columns;
  right_columns = serves.right_columns;
  idle = idle;
  stands = stands;
  fits = ap (λ (m : Meaning). m.fits A B) same ∙ serves.fits;
  takes = λ X Y left right. ap (λ (m : Meaning). m.takes X Y) same ∙ serves.takes X Y left right;
}

-- the engine begins with two empty inputs
pub Serves-start : {E : Type 0} (of : E → Standing) (engine : E) → (of engine).is_pending ≡ false → (of engine).StandsFor empty empty → (of engine).meaning.fits empty empty ≡ true
    → ((C D : Dataset) → HasColumns two_ints C → HasColumns two_ints D → (of engine).meaning.takes C D ≡ true) → Serves of engine empty empty
Serves-start of engine idle stands fits takes = record {
  left_columns = (IsTyped-empty two_ints true).rows;
  right_columns = (IsTyped-empty two_ints true).rows;
  idle = idle;
  stands = stands;
  fits = fits;
  takes = takes;
}
