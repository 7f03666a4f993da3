-- What the machine of `csv` does with a text that has no double quote: it cuts it at its line ends and commas.
use Rattle.std.proofs.Common.{◌≡◌, inl, inr, ℕ, zero, suc, ◌+◌, ◌<◌, ◌≤◌, ◌==◌, ◌++◌, List, [], ◌∷◌, length, Some, Bool, true, false, cond, refl, sym, ap, subst, ◌∙◌, append_assoc, arith}
use Rattle.std.specs.Prelude.{not, if◌then◌else◌}
use Rattle.std.specs.List.{filter, list_any, onto_first, slice_split}
use Rattle.std.proofs.lemmas.Bool.{cases_Bool, eqb-true, ne_eqb, or_parts}
use Rattle.std.proofs.lemmas.List.{append-nil}
use Rattle.std.proofs.lemmas.List.Splits.{slice_split-cons_yes, slice_split-cons_no}
use Rattle.csv.specs.Machine.{next_record}
use Rattle.csv.specs.Reading.{default_config, records, records_from, records_next, strip_bom}
use Rattle.csv.specs.declared.parser.State.{State}
use Rattle.csv.specs.declared.parser.State.TheVariants as state
use Rattle.plain_csv.proofs.Marks.{strip_bom-unquoted}
use Rattle.plain_csv.specs.Plain.{ends_line, has_bytes, is_comma, is_plain, is_quote, plain_fields, plain_records}

-- ---- the first line of a text

abbrev line_of : List ℕ → List ℕ
line_of [] = []
line_of (c ∷ rest) = if ends_line c then [] else c ∷ line_of rest

-- what stands behind its end
abbrev behind : List ℕ → List ℕ
behind [] = []
behind (c ∷ rest) = if ends_line c then rest else behind rest

-- the lines behind it
abbrev lines_behind : List ℕ → List (List ℕ)
lines_behind [] = []
lines_behind (c ∷ rest) = if ends_line c then slice_split ends_line rest else lines_behind rest

-- the state of the machine behind it
abbrev state_behind : List ℕ → State
state_behind [] = state.StartRecord
state_behind (c ∷ rest) = if ends_line c then (if c == 13 then state.AfterCr else state.StartRecord) else state_behind rest

behind-unquoted : (text : List ℕ) → list_any is_quote text ≡ false → list_any is_quote (behind text) ≡ false
behind-unquoted [] q = refl
behind-unquoted (c ∷ rest) q = elim (cases_Bool (ends_line c)) [
  | inl ends ↦ rw ends (or_parts _ _ q).1
  | inr goes ↦ rw goes (behind-unquoted rest (or_parts _ _ q).1)
]

length-behind : (text : List ℕ) → length (behind text) ≤ length text
length-behind [] = omega arith
length-behind (c ∷ rest) = elim (cases_Bool (ends_line c)) [
  | inl ends ↦ rw ends (omega arith)
  | inr goes ↦ rw goes (let more = length-behind rest in omega arith)
]

slice_split-lines : (text : List ℕ) → slice_split ends_line text ≡ line_of text ∷ lines_behind text
slice_split-lines [] = refl
slice_split-lines (c ∷ rest) = elim (cases_Bool (ends_line c)) [
  | inl ends ↦ rw ends refl
  | inr goes ↦ rw (goes, slice_split-lines rest) refl
]

-- behind the last line stands an empty one, which is no record
filter-lines_behind : (text : List ℕ) → filter has_bytes (lines_behind text) ≡ filter has_bytes (slice_split ends_line (behind text))
filter-lines_behind [] = refl
filter-lines_behind (c ∷ rest) = elim (cases_Bool (ends_line c)) [
  | inl ends ↦ rw ends refl
  | inr goes ↦ rw goes (filter-lines_behind rest)
]

-- ---- the first record of a text that is cut

has_bytes-cons : (c : ℕ) (line : List ℕ) → has_bytes (c ∷ line) ≡ true
has_bytes-cons c line = ap not (ne_eqb (suc (length line)) 0 (λ none. cc))

plain_records-skip : (c : ℕ) (rest : List ℕ) → ends_line c ≡ true → plain_records (c ∷ rest) ≡ plain_records rest
plain_records-skip c rest ends = rw (slice_split-cons_yes ends_line c rest ends) refl

plain_records-take : (c : ℕ) (rest : List ℕ) → ends_line c ≡ false
    → plain_records (c ∷ rest) ≡ plain_fields (line_of (c ∷ rest)) ∷ plain_records (behind (c ∷ rest))
plain_records-take c rest goes =
    let lines : slice_split ends_line (c ∷ rest) ≡ (c ∷ line_of rest) ∷ lines_behind rest = rw (slice_split-cons_no ends_line c rest goes, slice_split-lines rest) refl in
    rw (lines, has_bytes-cons c (line_of rest), goes, filter-lines_behind rest) refl

-- ---- the fields of a line, with bytes that were read before them

abbrev joined : List ℕ → List (List ℕ) → List (List ℕ)
joined front [] = front ∷ []
joined front (field ∷ fields) = (front ++ field) ∷ fields

joined-step : (is : Bool) (c : ℕ) (fields : List (List ℕ)) → joined [] (cond is ([] ∷ fields) (onto_first c fields)) ≡ cond is ([] ∷ fields) (onto_first c fields)
joined-step true c fields = refl
joined-step false c [] = refl
joined-step false c (field ∷ fields) = refl

joined-none : (line : List ℕ) → joined [] (plain_fields line) ≡ plain_fields line
joined-none [] = refl
joined-none (c ∷ rest) = joined-step (is_comma c) c (plain_fields rest)

joined-more : (front : List ℕ) (c : ℕ) (fields : List (List ℕ)) → joined (front ++ (c ∷ [])) fields ≡ joined front (onto_first c fields)
joined-more front c [] = refl
joined-more front c (field ∷ fields) = ap (λ (f : List ℕ). f ∷ fields) (append_assoc front (c ∷ []) field)

-- ---- one record of the machine

-- without a quote a field starts as it goes on
start_field-same : (fields : List (List ℕ)) (field text : List ℕ) → list_any is_quote text ≡ false
    → next_record default_config state.StartField fields field text ≡ next_record default_config state.InField fields field text
unfolding next_record
start_field-same fields field [] q = refl
start_field-same fields field (c ∷ rest) q = rw ((or_parts (c == 34) _ q).0) refl

-- the fields of the rest of a record's line
next_record-rest : (fields : List (List ℕ)) (field text : List ℕ) → list_any is_quote text ≡ false
    → next_record default_config state.InField fields field text ≡ Some (fields ++ joined field (plain_fields (line_of text)), state_behind text, behind text)
unfolding next_record
next_record-rest fields field [] q = rw (append-nil field) refl
next_record-rest fields field (c ∷ rest) q =
    let unquoted : list_any is_quote rest ≡ false = (or_parts (c == 34) _ q).1 in
    elim (cases_Bool (c == 44)) [
      | inl comma ↦
          let more = start_field-same (fields ++ (field ∷ [])) [] rest unquoted ∙ next_record-rest (fields ++ (field ∷ [])) [] rest unquoted in
          subst (λ (b : ℕ). next_record default_config state.InField fields field (b ∷ rest) ≡ Some (fields ++ joined field (plain_fields (line_of (b ∷ rest))), state_behind (b ∷ rest), behind (b ∷ rest)))
          (sym (eqb-true c 44 comma))
          (more ∙ rw (joined-none (line_of rest), append-nil field, append_assoc fields (field ∷ []) (plain_fields (line_of rest))) refl)
      | inr other ↦ elim (cases_Bool (ends_line c)) [
        | inl ends ↦ rw (other, ends, append-nil field) refl
        | inr goes ↦
            let more = next_record-rest fields (field ++ (c ∷ [])) rest unquoted in
            let line : plain_fields (line_of (c ∷ rest)) ≡ onto_first c (plain_fields (line_of rest)) = rw goes (slice_split-cons_no is_comma c (line_of rest) other) in
            rw (line, other, goes) (more ∙ rw (joined-more field c (plain_fields (line_of rest))) refl)
      ]
    ]

-- a line end before a record is passed over
next_record-skip : (c : ℕ) (rest : List ℕ) → ends_line c ≡ true
    → next_record default_config state.StartRecord [] [] (c ∷ rest) ≡ next_record default_config state.StartRecord [] [] rest
unfolding next_record
next_record-skip c rest ends = rw ends refl

-- any other byte starts one
next_record-take : (c : ℕ) (rest : List ℕ) → ends_line c ≡ false → list_any is_quote (c ∷ rest) ≡ false
    → next_record default_config state.StartRecord [] [] (c ∷ rest) ≡ Some (plain_fields (line_of (c ∷ rest)), state_behind (c ∷ rest), behind (c ∷ rest))
unfolding next_record
next_record-take c rest goes q =
    let start : next_record default_config state.StartRecord [] [] (c ∷ rest) ≡ next_record default_config state.StartField [] [] (c ∷ rest) = rw goes refl in
    start ∙ start_field-same [] [] (c ∷ rest) q ∙ next_record-rest [] [] (c ∷ rest) q ∙ rw (joined-none (line_of (c ∷ rest))) refl

-- ---- the machine behind a line, which it goes on from as from the start of a record

next_record-after_cr : (text : List ℕ) → next_record default_config state.AfterCr [] [] text ≡ next_record default_config state.StartRecord [] [] text
unfolding next_record
next_record-after_cr [] = refl
next_record-after_cr (c ∷ rest) = elim (cases_Bool (c == 10)) [
  | inl feed ↦ subst (λ (b : ℕ). next_record default_config state.AfterCr [] [] (b ∷ rest) ≡ next_record default_config state.StartRecord [] [] (b ∷ rest)) (sym (eqb-true c 10 feed)) refl
  | inr other ↦ rw other refl
]

records_from-after_cr : (n : ℕ) (text : List ℕ) → records_from default_config n state.AfterCr text ≡ records_from default_config n state.StartRecord text
unfolding records_from
records_from-after_cr zero text = refl
records_from-after_cr (suc n) text = ap (records_next (records_from default_config n)) (next_record-after_cr text)

records_from-state_behind : (n : ℕ) (before text : List ℕ) → records_from default_config n (state_behind before) text ≡ records_from default_config n state.StartRecord text
records_from-state_behind n [] text = refl
records_from-state_behind n (c ∷ rest) text = elim (cases_Bool (ends_line c)) [
  | inl ends ↦ rw ends (elim (cases_Bool (c == 13)) [ inl cr ↦ rw cr (records_from-after_cr n text) | inr feed ↦ rw feed refl ])
  | inr goes ↦ rw goes (records_from-state_behind n rest text)
]

-- ---- all records

records_from-plain : (n : ℕ) (text : List ℕ) → length text < n → list_any is_quote text ≡ false → records_from default_config n state.StartRecord text ≡ plain_records text
unfolding records_from next_record
records_from-plain zero text enough q = absurd (omega arith)
records_from-plain (suc n) [] enough q = refl
records_from-plain (suc n) (c ∷ rest) enough q = elim (cases_Bool (ends_line c)) [
  | inl ends ↦ ap (records_next (records_from default_config n)) (next_record-skip c rest ends) ∙ records_from-plain (suc n) rest (omega arith) (or_parts _ _ q).1 ∙ sym (plain_records-skip c rest ends)
  | inr goes ↦
      let left : behind (c ∷ rest) ≡ behind rest = rw goes refl in
      let within = length-behind rest in
      let more = records_from-plain n (behind (c ∷ rest)) (rw left (omega arith)) (behind-unquoted (c ∷ rest) q) in
      ap (records_next (records_from default_config n)) (next_record-take c rest goes q)
      ∙ ap (λ (rows : List (List (List ℕ))). plain_fields (line_of (c ∷ rest)) ∷ rows) (records_from-state_behind n (c ∷ rest) (behind (c ∷ rest)) ∙ more)
      ∙ sym (plain_records-take c rest goes)
]

unquoted : (text : List ℕ) → is_plain text ≡ true → list_any is_quote text ≡ false
unquoted text plain = elim (cases_Bool (list_any is_quote text)) [ inl quoted ↦ cc (rw quoted at plain) | inr none ↦ none ]

-- the records of a text without a quote
pub records-plain : (text : List ℕ) → is_plain text ≡ true → records default_config (strip_bom text) ≡ plain_records (strip_bom text)
records-plain text plain = records_from-plain (length (strip_bom text) + 1) (strip_bom text) (omega arith) (strip_bom-unquoted text (unquoted text plain))
