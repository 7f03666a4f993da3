-- What making changes pending key by key does to the parts.
use Rattle.std.specs.Prelude.{◌≡◌, ℕ, ◌+◌, ◌<◌, Bool, true, false, cond, ◌||◌, List, [], ◌∷◌, ◌++◌, length, take, refl}
use Rattle.std.specs.List.{AllByRecursion, dedup, dedup_from}
use Rattle.std.proofs.Common.{sym, ap, subst, ◌∙◌, arith, get_or}
use Rattle.std.proofs.Math.Bool.{or-false, or_assoc}
use Rattle.std.proofs.lemmas.List.{take_more}
use Rattle.std.proofs.lemmas.List.Elements.{All-from_recursion}
use Rattle.std.proofs.lemmas.List.Folds.{list_any-append}
use Rattle.std.proofs.lemmas.List.Sums.{fold_more}
use Rattle.ratios.specs.Ratio.{Ratio, ratio_mul, zero_ratio}
use Rattle.ratios.specs.Range.{InRange}
use Rattle.ratios.proofs.Products.{ratio_mul_zero}
use Rattle.record_text.specs.Order.{row_eq}
use Rattle.record_text.specs.OrderLaws.{row_ties}
use Rattle.datasets.specs.Dataset.{Dataset, at, rows, set_at}
use Rattle.datasets.specs.Entries.{AreRising, Row, Entries, has_row, rows_of, same_row, weight_in}
use Rattle.datasets.proofs.Counts.{set_at-same}
use Rattle.datasets.proofs.Equality.{same_weights}
use Rattle.datasets.proofs.Rows.{same_row-equal}
use Rattle.datasets.proofs.Weights.{at-absent, at-set_at}
use Rattle.weighted_set.specs.declared.weighted.Change.{Change}
use Rattle.weighted_set.specs.declared.weighted.Weighted.{Weighted}
use Rattle.weighted_set.specs.Changes.{applied, entries_of}
use Rattle.weighted_set.specs.Held.{AllInRange}
use Rattle.weighted_set.specs.Parts.{part_of}
use Rattle.weighted_set.proofs.Parts.{at-part_of, entries_have_weights, part_of-set_at}
use Rattle.weighted_set.proofs.Running.{entry_is, length-entries_of}
use Rattle.weighted_set.proofs.Sets.{AllInRange-set_at}
use Rattle.engines.specs.Products.{with_products}
use Rattle.engines.specs.Standing.{ArePartsOf}

-- ---- one item more
pub take_item : {X : Type 0} (xs : List X) (i : ℕ) (x : X) → i < length xs → x ≡ get_or xs i x → take (i + 1) xs ≡ take i xs ++ x ∷ []
take_item xs i x h is = take_more xs i x h ∙ ap (λ y. take i xs ++ y ∷ []) (sym is)

pub applied_more : (A : Dataset) (cs : List Change) (i : ℕ) (c : Change) → i < length cs → c ≡ get_or cs i c → applied A (take (i + 1) cs) ≡ set_at c.row c.new (applied A (take i cs))
applied_more A cs i c h is =
    fold_more (λ (B : Dataset) (c : Change). set_at c.row c.new B) A cs i c h ∙ ap (λ (d : Change). set_at d.row d.new (applied A (take i cs))) (sym is)

pub range_more : (A : Dataset) (cs : List Change) (i : ℕ) (c : Change) → i < length cs → c ≡ get_or cs i c → InRange c.new → AllInRange (applied A (take i cs)) → AllInRange (applied A (take (i + 1) cs))
range_more A cs i c h is new old = subst AllInRange (sym (applied_more A cs i c h is)) (AllInRange-set_at c.row c.new (applied A (take i cs)) new old)

pub each_more : (P : Row → Type 0) (done : List Row) (x : Row) → ((k : Row) → has_row done k ≡ true → P k) → P x → (k : Row) → has_row (done ++ x ∷ []) k ≡ true → P k
each_more P done x all here k h =
    elim (same_row k x) as (λ b. same_row k x ≡ b → (has_row done k || (b || false)) ≡ true → P k) [
      | true ↦ λ p _. subst P (sym (same_row-equal k x p)) here
      | false ↦ λ p q. all k (sym (or-false (has_row done k)) ∙ q)
    ] refl (sym (list_any-append (same_row k) done (x ∷ [])) ∙ h)

-- ---- keys
-- a slice has the entries of the list that it is of
pub entries_of_slice : (slice items : List Weighted) (A : Dataset) → slice ≡ items → entries_of items ≡ A.entries → entries_of slice ≡ A.entries
entries_of_slice slice items A e h = ap entries_of e ∙ h

-- the weight of a row of a list in row order
pub entry_weight : (list : List Weighted) → AreRising (rows_of (entries_of list)) → (i : ℕ) (e : Weighted) → i < length list → e ≡ get_or list i e → e.weight ≡ weight_in (entries_of list) e.row
entry_weight list rising i e h is =
    let n = length-entries_of list in
    let P : Row × Ratio → Type 0 = λ f. f.1 ≡ weight_in (entries_of list) f.0 in
    let each : AllByRecursion P (entries_of list) = entries_have_weights (entries_of list) rising in
    let below : i < length (entries_of list) = omega arith in
    subst P (entry_is list i e h is) (All-from_recursion P (entries_of list) each i (e.row, e.weight) below)

keys_append : (ks : List Weighted) (e : Weighted) (k : Row) → has_row (rows_of (entries_of (ks ++ e ∷ []))) k ≡ (has_row (rows_of (entries_of ks)) k || same_row k e.row)
keys_append [] e k = or-false (same_row k e.row)
keys_append (d ∷ ks) e k = ap (λ b. same_row k d.row || b) (keys_append ks e k) ∙ sym (or_assoc (same_row k d.row) (has_row (rows_of (entries_of ks)) k) (same_row k e.row))

pub keys_more : (ks : List Weighted) (i : ℕ) (e : Weighted) → i < length ks → e ≡ get_or ks i e → (k : Row) → has_row (rows_of (entries_of (take (i + 1) ks))) k ≡ (has_row (rows_of (entries_of (take i ks))) k || same_row k e.row)
keys_more ks i e h is k = ap (λ es. has_row (rows_of (entries_of es)) k) (take_item ks i e h is) ∙ keys_append (take i ks) e k

set_at-again : (x : Row) (w : Ratio) (A : Dataset) → set_at x w (set_at x w A) ≡ set_at x w A
set_at-again x w A =
    same_weights (set_at x w (set_at x w A)) (set_at x w A) (λ y.
    at-set_at x w (set_at x w A) y ∙ ap (cond (same_row y x) w) (at-set_at x w A y) ∙ once (same_row y x) (at A y) ∙ sym (at-set_at x w A y))
  where
    once : (b : Bool) (v : Ratio) → cond b w (cond b w v) ≡ cond b w v
    once true v = refl
    once false v = refl

set_at_either : (a b : Bool) (x : Row) (w : Ratio) (A : Dataset) → cond b (set_at x w (cond a (set_at x w A) A)) (cond a (set_at x w A) A) ≡ cond (a || b) (set_at x w A) A
set_at_either true true x w A = set_at-again x w A
set_at_either true false x w A = refl
set_at_either false true x w A = refl
set_at_either false false x w A = refl

-- one key more has the new weight times its factor
pub put_more : (ks : List Weighted) → AreRising (rows_of (entries_of ks)) → (i : ℕ) (e : Weighted) → i < length ks → e ≡ get_or ks i e → (x : Row) (w v : Ratio) → v ≡ ratio_mul w e.weight → (first now next : Row → Dataset)
    → ((k : Row) → now k ≡ cond (has_row (rows_of (entries_of (take i ks))) k) (set_at x (ratio_mul w (weight_in (entries_of ks) k)) (first k)) (first k))
    → ((k : Row) → next k ≡ cond (same_row k e.row) (set_at x v (now k)) (now k))
    → (k : Row) → next k ≡ cond (has_row (rows_of (entries_of (take (i + 1) ks))) k) (set_at x (ratio_mul w (weight_in (entries_of ks) k)) (first k)) (first k)
put_more ks rising i e h is x w v product first now next p q k =
    let seen = has_row (rows_of (entries_of (take i ks))) k in
    let u = ratio_mul w (weight_in (entries_of ks) k) in
    q k ∙ own (same_row k e.row) (same_row-equal k e.row) ∙ ap (λ A. cond (same_row k e.row) (set_at x u A) A) (p k) ∙ set_at_either seen (same_row k e.row) x u (first k)
    ∙ ap (λ b. cond b (set_at x u (first k)) (first k)) (sym (keys_more ks i e h is k))
  where
    own : (b : Bool) → (b ≡ true → k ≡ e.row) → cond b (set_at x v (now k)) (now k) ≡ cond b (set_at x (ratio_mul w (weight_in (entries_of ks) k)) (now k)) (now k)
    own true same = ap (λ z. set_at x z (now k)) (product ∙ ap (ratio_mul w) (entry_weight ks rising i e h is) ∙ ap (λ y. ratio_mul w (weight_in (entries_of ks) y)) (sym (same refl)))
    own false same = refl

-- ---- parts
-- a row isn't in the part of a key that it doesn't belong to
unset : (keys : Row → Dataset) (k x : Row) (w : Ratio) (A : Dataset) → at (keys x) k ≡ zero_ratio → set_at x (ratio_mul w (at (keys x) k)) (part_of keys k A) ≡ part_of keys k A
unset keys k x w A none =
    let part = part_of keys k A in
    let absent : at part x ≡ zero_ratio = at-part_of keys k A x ∙ ap (ratio_mul (at A x)) none ∙ ratio_mul_zero (at A x) in
    ap (λ v. set_at x v part) (ap (ratio_mul w) none ∙ ratio_mul_zero w ∙ sym absent) ∙ set_at-same x part

pub parts_more : (keys : Row → Dataset) (x : Row) (w : Ratio) (es : Entries) → es ≡ (keys x).entries → (old new : Row → Dataset)
    → ((k : Row) → new k ≡ with_products x w es old k) → (A : Dataset) → ArePartsOf keys old A → ArePartsOf keys new (set_at x w A)
parts_more keys x w es e old new p A h k =
    p k
    ∙ ap (λ es. with_products x w es old k) e
    ∙ ap (λ B. cond (has_row (rows (keys x)) k) (set_at x (ratio_mul w (at (keys x) k)) B) B) (h k)
    ∙ set_anyway (has_row (rows (keys x)) k) (at-absent (keys x) k)
    ∙ sym (part_of-set_at keys k x w A)
  where
    set_anyway : (b : Bool) → (b ≡ false → at (keys x) k ≡ zero_ratio) → cond b (set_at x (ratio_mul w (at (keys x) k)) (part_of keys k A)) (part_of keys k A) ≡ set_at x (ratio_mul w (at (keys x) k)) (part_of keys k A)
    set_anyway true absent = refl
    set_anyway false absent = sym (unset keys k x w A (absent refl))

-- ---- a list with each row once
rows_of_dedup_from : (k x : Row) (xs : List Row) → has_row (dedup_from row_eq x xs) k ≡ has_row (x ∷ xs) k
rows_of_dedup_from k x [] = refl
rows_of_dedup_from k x (y ∷ ys) =
    let same = rows_of_dedup_from k x ys in
    let other = rows_of_dedup_from k y ys in
    (elim (row_eq y x) as (λ b. row_eq y x ≡ b → has_row (cond b (dedup_from row_eq x ys) (x ∷ dedup_from row_eq y ys)) k ≡ (same_row k x || (same_row k y || has_row ys k))) [
      | true ↦ λ q. same ∙ again (same_row k x) (same_row k y) (has_row ys k) (ap (same_row k) (same_row-equal y x (sym (row_ties y x) ∙ q)))
      | false ↦ λ q. ap (λ b. same_row k x || b) other
    ]) refl
  where
    again : (a b c : Bool) → b ≡ a → (a || c) ≡ (a || (b || c))
    again true b c e = refl
    again false b c e = sym (ap (λ d. d || c) e)

pub has_row-dedup : (xs : List Row) (k : Row) → has_row (dedup row_eq xs) k ≡ has_row xs k
has_row-dedup [] k = refl
has_row-dedup (x ∷ xs) k = rows_of_dedup_from k x xs
