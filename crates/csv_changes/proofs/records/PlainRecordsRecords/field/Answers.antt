use Rattle.std.proofs.Common.{◌≡◌, ℕ, zero, suc, ◌<◌, ◌≤◌, List, [], ◌∷◌, length, map, Option, Some, None, option_map, refl, ap, ◌∙◌, arith}
use Rattle.std.specs.Borrow.{Bor}
use Rattle.std.specs.List.{HoldsAt}
use Rattle.std.specs.Option.{MatchOption, option_copied}
use Rattle.csv.specs.Records.{field_at}
use Rattle.csv_changes.proofs.records.PlainRecordsRecords.field.Goals as goal

-- the field that a list of fields has at a place
field_at-lent : (fields : List (Bor (List ℕ))) (column : ℕ) (found : Option (Bor (Bor (List ℕ))))
    → MatchOption found (length fields ≤ column) (λ x. (column < length fields) × HoldsAt (λ field. x.now ≡ field) fields column)
    → option_map (λ text. text.now) (option_copied found) ≡ field_at (map (λ field. field.now) fields) column
unfolding field_at
field_at-lent [] column None is = refl
field_at-lent [] column (Some x) is = let within = is.0 in absurd (omega arith)
field_at-lent (field ∷ fields) zero None is = absurd (omega arith)
field_at-lent (field ∷ fields) zero (Some x) is = ap (λ (f : Bor (List ℕ)). Some f.now) (is.1 x.now)
field_at-lent (field ∷ fields) (suc column) None is = field_at-lent fields column None (omega arith)
field_at-lent (field ∷ fields) (suc column) (Some x) is = field_at-lent fields column (Some x) (let within = is.0 in omega arith, is.1)

pub returns : goal.returns
returns c =
    ap (option_map (λ text. text.now)) c.copied.ensures
    ∙ field_at-lent c.fields.result.now c.args.column c.get.result c.get.ensures.lookup.3
    ∙ ap (λ fields. field_at fields c.args.column) c.fields.ensures
