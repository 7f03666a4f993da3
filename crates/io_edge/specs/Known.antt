-- The bytes or numbers that pass through a device, where they are known. `None` says nothing of them.
use Rattle.std.specs.Prelude.{◌≡◌, ◌↔◌, ℕ, List, [], ◌∷◌, ◌++◌, take, ⊤, Option, None, Some, IfSome, Result, Ok, Err}

-- these items left the front of the list; what isn't known stays unknown
abbrev pub Loses : {A : Type 0} → Option (List A) → Option (List A) → List A → Type 0
Loses None None items = ⊤
Loses None (Some new) items = ⊥
Loses (Some old) None items = ⊥
Loses (Some old) (Some new) items = old ≡ items ++ new

-- these items came to the end of the list; what isn't known stays unknown
abbrev pub Gains : {A : Type 0} → Option (List A) → Option (List A) → List A → Type 0
Gains None None items = ⊤
Gains None (Some new) items = ⊥
Gains (Some old) None items = ⊥
Gains (Some old) (Some new) items = new ≡ old ++ items

-- nothing is left, as far as it is known
abbrev pub IsUsedUp : {A : Type 0} → Option (List A) → Type 0
IsUsedUp known = IfSome known (λ left. left ≡ [])

-- a read of n bytes takes the first n of the buffer from what was left, and none exactly at the end; a failed read
-- takes none
abbrev pub ReadOutcome : {E : Type 0} → Option (List ℕ) → Option (List ℕ) → Result ℕ E → List ℕ → Type 0
ReadOutcome old new (Ok n) buf = Loses old new (take n buf) × IfSome old (λ left. (n ≡ 0) ↔ (left ≡ []))
ReadOutcome old new (Err e) buf = new ≡ old

-- a write of n bytes puts the first n of the piece after what was written; a failed write puts none
abbrev pub WriteOutcome : {E : Type 0} → Option (List ℕ) → Option (List ℕ) → Result ℕ E → List ℕ → Type 0
WriteOutcome old new (Ok n) piece = Gains old new (take n piece)
WriteOutcome old new (Err e) piece = new ≡ old

-- a draw puts its epsilon and number after what was given; a failed draw puts nothing
abbrev pub DrawOutcome : {A E : Type 0} → Option (List (ℕ × A)) → Option (List (ℕ × A))
    → Result A E → ℕ → Type 0
DrawOutcome old new (Ok number) eps = Gains old new ((eps, number) ∷ [])
DrawOutcome old new (Err e) eps = new ≡ old
