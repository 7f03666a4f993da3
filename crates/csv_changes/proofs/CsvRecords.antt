-- The records of a CSV text, one read at a time.
use Rattle.std.proofs.Common.{◌≡◌, ◌⊎◌, inl, inr, ℕ, zero, suc, ◌+◌, ◌<◌, ◌≤◌, List, [], ◌∷◌, length, Option, Some, None, IsSome, Bool, true, false, cond, refl, sym, ap, ◌∙◌, add-one, arith}
use Rattle.csv.specs.Machine.{Read, next_record, step, ends_at_end, is_end, fields_after, field_after}
use Rattle.csv.specs.Reading.{NextIs, ReadRecord, ReadsNext, default_config, pending_of, records_from, records_next}
use Rattle.csv.specs.declared.parser.Config.{Config}
use Rattle.csv.specs.declared.parser.State.{State}
use Rattle.csv.specs.declared.parser.State.TheVariants as state
use Rattle.csv_changes.specs.RecordsLeft.{ByteReader, IsReading, bytes_left, records_left, records_of}

-- ---- what a record leaves of a text

-- the branch that a choice took
chosen : {A : Type 0} (b : Bool) (x y z : A) → cond b x y ≡ z → ((b ≡ true) × (x ≡ z)) ⊎ ((b ≡ false) × (y ≡ z))
chosen true x y z e = inl (refl, e)
chosen false x y z e = inr (refl, e)

-- the end of the text ends the last record, and leaves nothing
left_at_end : (cfg : Config) (s : State) (fields : List (List ℕ)) (field : List ℕ) (p : Read)
    → next_record cfg s fields field [] ≡ Some p → (p.1 ≡ state.StartRecord) × (p.2 ≡ [])
unfolding next_record
left_at_end cfg s fields field p e = elim (chosen (ends_at_end s) _ _ _ e) [ inl h ↦ let x = h.1 in (cc, cc) | inr h ↦ let x = h.1 in cc ]

-- no more is left than there was
left_within : (cfg : Config) (s : State) (fields : List (List ℕ)) (field xs : List ℕ) (p : Read)
    → next_record cfg s fields field xs ≡ Some p → length p.2 ≤ length xs
unfolding next_record
left_within cfg s fields field [] p e = rw ((left_at_end cfg s fields field p e).1) (omega arith)
left_within cfg s fields field (c ∷ rest) p e = elim (chosen (is_end (step cfg s c).1) _ _ _ e) [
  | inl h ↦ let x : rest ≡ p.2 = (let y = h.1 in cc) in rw (← x) (omega arith)
  | inr h ↦ let x = left_within cfg (step cfg s c).0 (fields_after (step cfg s c).1 fields field) (field_after (step cfg s c).1 c field) rest p h.1 in omega arith
]

-- a record takes a byte, or it is the last and nothing is left
left_after : (cfg : Config) (s : State) (xs : List ℕ) (p : Read) → next_record cfg s [] [] xs ≡ Some p
    → (length p.2 < length xs) ⊎ ((p.1 ≡ state.StartRecord) × (p.2 ≡ []))
unfolding next_record
left_after cfg s [] p e = inr (left_at_end cfg s [] [] p e)
left_after cfg s (c ∷ rest) p e = inl (elim (chosen (is_end (step cfg s c).1) _ _ _ e) [
  | inl h ↦ let x : rest ≡ p.2 = (let y = h.1 in cc) in rw (← x) (omega arith)
  | inr h ↦ let x = left_within cfg (step cfg s c).0 (fields_after (step cfg s c).1 [] []) (field_after (step cfg s c).1 c []) rest p h.1 in omega arith
])

-- ---- the records of a text, in as many turns as there are bytes and one more, or in more

-- there is no record behind the last
records_from-end : (cfg : Config) (n : ℕ) → records_from cfg n state.StartRecord [] ≡ []
unfolding records_from next_record
records_from-end cfg zero = refl
records_from-end cfg (suc n) = refl

-- more turns change nothing
records_from-turns : (cfg : Config) (n m : ℕ) (s : State) (xs : List ℕ) → length xs < n → length xs < m → records_from cfg n s xs ≡ records_from cfg m s xs
unfolding records_from
records_from-turns cfg zero m s xs h k = absurd (omega arith)
records_from-turns cfg (suc n) zero s xs h k = absurd (omega arith)
records_from-turns cfg (suc n) (suc m) s xs h k =
    elim (next_record cfg s [] [] xs) as (λ o. next_record cfg s [] [] xs ≡ o → records_next (records_from cfg n) o ≡ records_next (records_from cfg m) o) [
      | None ↦ λ e. refl
      | Some p ↦ λ e. ap (λ (rows : List (List (List ℕ))). p.0 ∷ rows)
          (elim (left_after cfg s xs p e) [
            | inl less ↦ records_from-turns cfg n m p.1 p.2 (omega arith) (omega arith)
            | inr last ↦ rw (last.0, last.1) (records_from-end cfg n ∙ sym (records_from-end cfg m))
          ])
    ] refl

-- a record, and then those of what it leaves
records_of-next : (s : State) (xs : List ℕ) (p : Read) → next_record default_config s [] [] xs ≡ Some p
    → records_of s (Some xs) ≡ p.0 ∷ records_of p.1 (Some p.2)
unfolding records_from
records_of-next s xs p e =
    let first : records_of s (Some xs) ≡ p.0 ∷ records_from default_config (length xs) p.1 p.2 = rw (add-one, e) refl in
    first ∙ ap (λ (rows : List (List (List ℕ))). p.0 ∷ rows)
    (elim (left_after default_config s xs p e) [
      | inl less ↦ records_from-turns default_config (length xs) (length p.2 + 1) p.1 p.2 less (omega arith)
      | inr last ↦ rw (last.0, last.1) (records_from-end default_config (length xs) ∙ sym (records_from-end default_config (length {A = ℕ} [] + 1)))
    ])

-- no record
records_of-none : (s : State) (xs : List ℕ) → next_record default_config s [] [] xs ≡ None → records_of s (Some xs) ≡ []
unfolding records_from
records_of-none s xs e = rw (add-one, e) refl

-- what a read shows of the records of the bytes before it
records_of-read : (s : State) (old new : Option (List ℕ)) (found : Bool) (fields : List (List ℕ)) (s2 : State) → IsSome old
    → ReadsNext default_config s old new found fields s2 → records_of s old ≡ cond found (fields ∷ records_of s2 new) []
records_of-read s None new found fields s2 known r = cc
records_of-read s (Some xs) None found fields s2 known r = absurd r
records_of-read s (Some xs) (Some ys) found fields s2 known r =
    elim (next_record default_config s [] [] xs)
    as (λ o. next_record default_config s [] [] xs ≡ o → NextIs o found fields s2 ys → records_of s (Some xs) ≡ cond found (fields ∷ records_of s2 (Some ys)) []) [
      | None ↦ λ e is. rw is (records_of-none s xs e)
      | Some p ↦ λ e is. rw (is.0, is.1, is.2, is.3) (records_of-next s xs p e)
    ] refl r

-- a read takes one record off those that are left, or there was none
pub records_left-read : (a b : ByteReader) (found : Bool) (fields : List (List ℕ)) → IsReading a
    → ReadRecord (λ source. Some source.now) a b found fields → records_left a ≡ cond found (fields ∷ records_left b) []
records_left-read a b found fields reads r =
    let same : bytes_left b ≡ pending_of (Some b.rdr.now) b = rw r.1 refl in
    rw same (records_of-read a.state (bytes_left a) (pending_of (Some b.rdr.now) b) found fields b.state reads.known (rw reads.config at r.0))
