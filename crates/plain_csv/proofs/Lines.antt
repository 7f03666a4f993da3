-- The first part of a list that is cut, and the first record of a text.
use Rattle.std.proofs.Common.{◌≡◌, inl, inr, ℕ, ◌+◌, ◌<◌, ◌≤◌, List, [], ◌∷◌, ◌++◌, append_assoc, length, take, drop, Some, None, Bool, false, refl, arith}
use Rattle.std.specs.Prelude.{All, map, if◌then◌else◌}
use Rattle.std.specs.List.{filter, position, position_or_len, slice_split}
use Rattle.std.proofs.lemmas.Bool.{cases_Bool, cases_lt, le-ltb, lt-ltb}
use Rattle.std.proofs.lemmas.List.Elements.{All-cons, All-nil}
use Rattle.std.proofs.lemmas.List.Splits.{slice_split_first, slice_split_none}
use Rattle.plain_csv.specs.Plain.{ends_line, has_bytes, is_comma, plain_fields, plain_records}

-- ---- the first part of a list, by the place of the first element that passes

position-some : (p : ℕ → Bool) (xs : List ℕ) (k : ℕ) → Some k ≡ position p xs → (position_or_len p xs < length xs) × (position_or_len p xs ≡ k)
position-some p xs k e = elim (cases_lt (position_or_len p xs) (length xs)) [
  | inl within ↦ (within, (let found = rw (lt-ltb _ _ within) at e in cc))
  | inr past ↦ (let found = rw (le-ltb _ _ past) at e in cc)
]

pub position-within : (p : ℕ → Bool) (xs : List ℕ) (k : ℕ) → Some k ≡ position p xs → k < length xs
position-within p xs k e = let found = position-some p xs k e in omega arith

none-pass : (p : ℕ → Bool) (xs : List ℕ) → length xs ≤ position_or_len p xs → All (λ x. p x ≡ false) xs
none-pass p [] past = All-nil (λ x. p x ≡ false)
none-pass p (x ∷ xs) past = elim (cases_Bool (p x)) [
  | inl passes ↦ absurd (let none = rw passes at past in omega arith)
  | inr fails ↦ All-cons (λ x. p x ≡ false) x xs fails (none-pass p xs (let more = rw fails at past in omega arith))
]

pub first-part : (p : ℕ → Bool) (xs : List ℕ) (k : ℕ) → Some k ≡ position p xs → slice_split p xs ≡ take k xs ∷ slice_split p (drop (k + 1) xs)
first-part p xs k e =
    let found = position-some p xs k e in
    rw found.1 at (slice_split_first p xs 0 found.0)

pub only-part : (p : ℕ → Bool) (xs : List ℕ) → None ≡ position p xs → slice_split p xs ≡ xs ∷ []
only-part p xs e = elim (cases_lt (position_or_len p xs) (length xs)) [
  | inl within ↦ (let none = rw (lt-ltb _ _ within) at e in cc)
  | inr past ↦ slice_split_none p xs (none-pass p xs past)
]

-- ---- the first record of a text

-- a first line that is empty is no record, and any other is one
pub plain_records-first : (text line : List ℕ) (more : List (List ℕ)) → slice_split ends_line text ≡ line ∷ more
    → plain_records text ≡ (if has_bytes line then plain_fields line ∷ map plain_fields (filter has_bytes more) else map plain_fields (filter has_bytes more))
plain_records-first text line more e = elim (cases_Bool (has_bytes line)) [
  | inl filled ↦ rw (e, filled) refl
  | inr empty ↦ rw (e, empty) refl
]

-- ---- the fields of a line, one by one

pub plain_fields-next : (taken : List (List ℕ)) (before : List (List ℕ)) (line : List ℕ) (k : ℕ) (whole : List (List ℕ)) → Some k ≡ position is_comma line
    → taken ≡ before ++ take k line ∷ [] → before ++ plain_fields line ≡ whole → taken ++ plain_fields (drop (k + 1) line) ≡ whole
plain_fields-next taken before line k whole e one read =
    rw (one, append_assoc before (take k line ∷ []) (plain_fields (drop (k + 1) line))) (rw (first-part is_comma line k e) at read)
