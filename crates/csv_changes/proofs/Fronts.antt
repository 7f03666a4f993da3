-- Loops that read the members of a list one by one, with those that were read in front.
use Rattle.std.proofs.Common.{◌≡◌, ℕ, ◌+◌, List, [], ◌∷◌, ◌++◌, Result, Ok, Err, refl, sym, ap, ◌∙◌, append_assoc}
use Rattle.json_fields.proofs.Members.{with_front}
use Rattle.json_fields.specs.Walk.{◌>>=◌, each}
use Rattle.csv_changes.specs.Changes.{BadRecord, FailsCsv}
use Rattle.csv_changes.specs.declared.fault.CsvFault.{CsvFault}
use Rattle.csv_changes.specs.declared.fault.CsvFault.TheVariants as fault

-- one more in front
with_front-next : {A E : Type 0} (front : List A) (x : A) (r : Result (List A) E)
    → with_front front (r >>= λ xs. Ok (x ∷ xs)) ≡ with_front (front ++ x ∷ []) r
with_front-next front x (Ok xs) = ap Ok (sym (append_assoc front (x ∷ []) xs))
with_front-next front x (Err e) = refl

-- the next member was read
pub each-next : {D A E : Type 0} (f : ℕ → D → Result A E) (at next : ℕ) (d : D) (left rest : List D) (front more : List A) (x : A) (whole : Result (List A) E)
    → next ≡ at + 1 → left ≡ d ∷ rest → more ≡ front ++ x ∷ [] → f at d ≡ Ok x
    → with_front front (each f at left) ≡ whole → with_front more (each f next rest) ≡ whole
each-next f at next d left rest front more x whole place one longer read before =
    rw (place, longer) (sym (with_front-next front x (each f (at + 1) rest)) ∙ rw (one, read) at before)

-- the next member has a fault
pub FailsCsv-next : {D A : Type 0} (f : ℕ → D → Result A BadRecord) (at : ℕ) (d : D) (left rest : List D) (front : List A) (whole : Result (List A) BadRecord) (e : CsvFault)
    → left ≡ d ∷ rest → FailsCsv e (f at d) → with_front front (each f at left) ≡ whole → FailsCsv e whole
FailsCsv-next f at d left rest front whole fault.Memory one fails before = tt
FailsCsv-next f at d left rest front whole (fault.Bad place what) one fails before = sym (rw (one, fails) at before)
