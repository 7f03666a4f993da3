-- Which keys are noted.
use Rattle.std.specs.Prelude.{◌≡◌, ℕ, ◌+◌, ◌<◌, false, cond, ◌||◌, List, [], ◌∷◌, ◌++◌, length, take}
use Rattle.std.proofs.Common.{ap, get_or, sym, ◌∙◌}
use Rattle.std.proofs.lemmas.Bool.{or_parts}
use Rattle.std.proofs.lemmas.Grind.{flat_map-append}
use Rattle.std.proofs.lemmas.List.{append-nil, append_assoc}
use Rattle.std.proofs.lemmas.List.Folds.{list_any-append}
use Rattle.datasets.specs.Dataset.{Dataset, rows}
use Rattle.datasets.specs.Entries.{Row, has_row, same_row}
use Rattle.weighted_set.specs.declared.weighted.Change.{Change}
use Rattle.engines.specs.Touched.{changed_keys}
use Rattle.engines.proofs.Pending.{take_item}

-- where the keys of a row are noted, each key that is not noted keeps its part
pub untouched_put : (old new keys : List Row) → new ≡ old ++ keys → (changed first next : Row → Dataset) → ((k : Row) → next k ≡ cond (has_row keys k) (changed k) (first k))
    → (k : Row) → has_row new k ≡ false → (has_row old k ≡ false) × (next k ≡ first k)
untouched_put old new keys noted changed first next put k n =
    let apart = or_parts (has_row old k) (has_row keys k) (sym (ap (λ ks. has_row ks k) noted ∙ list_any-append (same_row k) old keys) ∙ n) in
    (apart.0, put k ∙ ap (λ b. cond b (changed k) (first k)) apart.1)

-- the keys of changed rows, and of those of one change more
pub changed_more : (keys : Row → Dataset) (old now new : List Row) (changes : List Change) (i : ℕ) (c : Change) → i < length changes → c ≡ get_or changes i c
    → now ≡ old ++ changed_keys keys (take i changes) → new ≡ now ++ rows (keys c.row) → new ≡ old ++ changed_keys keys (take (i + 1) changes)
changed_more keys old now new changes i c h is before put =
    let keys_of : Change → List Row = λ d. rows (keys d.row) in
    put ∙ ap (λ xs. xs ++ rows (keys c.row)) before ∙ append_assoc old (changed_keys keys (take i changes)) (rows (keys c.row))
    ∙ ap (λ xs. old ++ xs)
    (sym (ap (changed_keys keys) (take_item changes i c h is) ∙ flat_map-append keys_of (take i changes) (c ∷ []) ∙ ap (λ xs. changed_keys keys (take i changes) ++ xs) (append-nil (rows (keys c.row)))))

-- the keys of both inputs, noted one after the other and put in order
pub changed_both : (sorted first second left right : List Row) (k : Row) → has_row sorted k ≡ has_row second k → first ≡ left → second ≡ first ++ right → has_row sorted k ≡ (has_row left k || has_row right k)
changed_both sorted first second left right k same one both =
    same ∙ ap (λ xs. has_row xs k) (both ∙ ap (λ xs. xs ++ right) one) ∙ list_any-append (same_row k) left right
