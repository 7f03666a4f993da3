-- What a store holds once the part of one key is changed.
use Rattle.std.specs.Prelude.{◌≡◌, Bool, true, false, cond, IfSome, [], Option, Some, None, refl, unwrap_or}
use Rattle.std.specs.Map.{lookup}
use Rattle.std.proofs.Common.{sym, ap, ◌∙◌}
use Rattle.datasets.specs.Dataset.{Dataset, empty}
use Rattle.datasets.specs.Entries.{Row, same_row}
use Rattle.datasets.proofs.Rows.{same_row-equal, same_row-turned}
use Rattle.weighted_set.specs.declared.held.View.{View}
use Rattle.weighted_set.specs.declared.held.View.TheVariants.{Committed, Pending}
use Rattle.weighted_set.specs.Held.{HeldDatasets, viewed}
use Rattle.weighted_set.specs.Parts.{IsSettledPart, StoreParts, committed_part, empty_part, part_at, pending_part}
use Rattle.weighted_set.specs.Tables.{AllBut, FindsAt}

either_part : (b : Bool) (o p : Option HeldDatasets) → unwrap_or (cond b o p) empty_part ≡ cond b (unwrap_or o empty_part) (unwrap_or p empty_part)
either_part true o p = refl
either_part false o p = refl

module _ (key : Row) (o : Option HeldDatasets) (old new : StoreParts) (finds : FindsAt key o old new) where
  part_at-finds : (k : Row) → part_at new k ≡ cond (same_row k key) (unwrap_or o empty_part) (part_at old k)
  part_at-finds k =
      ap (λ p. unwrap_or p empty_part) (finds k)
      ∙ either_part (same_row key k) o (lookup (same_row k) old)
      ∙ ap (λ b. cond b (unwrap_or o empty_part) (part_at old k)) (same_row-turned key k)

  -- what f sees of the key is now what g saw, and f sees of every other key what it saw
  pub part_moves : (f g : HeldDatasets → Dataset) → f (unwrap_or o empty_part) ≡ g (part_at old key) → (k : Row) → f (part_at new k) ≡ cond (same_row k key) (g (part_at old k)) (f (part_at old k))
  part_moves f g there k =
      ap f (part_at-finds k)
      ∙ elim (same_row k key) as (λ b. same_row k key ≡ b → f (cond b (unwrap_or o empty_part) (part_at old k)) ≡ cond b (g (part_at old k)) (f (part_at old k))) [
        | true ↦ λ same. there ∙ ap (λ x. g (part_at old x)) (sym (same_row-equal k key same))
        | false ↦ λ other. refl
      ] refl

  -- f sees of every key what it saw
  pub part_stays : (f : HeldDatasets → Dataset) → f (unwrap_or o empty_part) ≡ f (part_at old key) → (k : Row) → f (part_at new k) ≡ f (part_at old k)
  part_stays f there k = part_moves f f there k ∙ same_either (same_row k key) (f (part_at old k))
    where
      same_either : (b : Bool) (A : Dataset) → cond b A A ≡ A
      same_either true A = refl
      same_either false A = refl

-- where no key is touched, nothing is pending
same_found : (o : Option HeldDatasets) → IfSome o IsSettledPart → (unwrap_or o empty_part).pending ≡ (unwrap_or o empty_part).committed
same_found None h = refl
same_found (Some part) h = h.0

pub nothing_pending : (parts : StoreParts) → AllBut IsSettledPart [] parts → (k : Row) → pending_part parts k ≡ committed_part parts k
nothing_pending parts h k = same_found (lookup (same_row k) parts) (h k refl)

-- ---- a part without rows
pub viewed-empty_part : (view : View) → viewed view empty_part ≡ empty
viewed-empty_part Committed = refl
viewed-empty_part Pending = refl

pub entries-empty_part : (view : View) → (viewed view empty_part).entries ≡ []
unfolding empty
entries-empty_part Committed = refl
entries-empty_part Pending = refl
