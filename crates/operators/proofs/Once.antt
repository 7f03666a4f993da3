-- Lists that have a member once.
use Rattle.std.specs.Prelude.{◌≡◌, ◌≢◌, ◌⊎◌, ◌+◌, ◌<◌, ◌||◌, ℕ, zero, suc, Bool, true, false, cond, filter, List, [], ◌∷◌, ◌++◌, map, refl}
use Rattle.std.specs.List.{AllByRecursion, range_with_len}
use Rattle.std.specs.List.Sorted.{IsStrictlySortedBy}
use Rattle.std.specs.declared.cmp.Ordering.TheVariants.{Less}
use Rattle.std.proofs.Common.{arith, inl, inr, sym, ap, ap₂, subst, ◌∙◌, true≢false}
use Rattle.std.proofs.lemmas.Bool.{false_from_ne_true}
use Rattle.record_text.specs.Order.{row_cmp}
use Rattle.datasets.specs.Entries.{AreRising, Row, has_row, same_row}
use Rattle.datasets.proofs.Rows.{different_if_less, same_row-equal, same_row-itself}
use Rattle.datasets.proofs.Members.{AllByRecursion-append, AllByRecursion-everywhere, AllByRecursion-map, AllByRecursion-weaker}
use Rattle.operators.specs.Weights.{pairs}
use Rattle.operators.proofs.Members.{AllByRecursion-pairs, AllByRecursion-range_with_len}

-- no member of the list is x
abbrev pub HasNowhere : {X : Type 0} → X → List X → Type 0
HasNowhere x ys = AllByRecursion (λ y. y ≢ x) ys

-- one member of the list is x
abbrev pub HasOnce : {X : Type 0} → X → List X → Type 0
HasOnce x [] = ⊥
HasOnce x (y ∷ ys) = ((y ≡ x) × HasNowhere x ys) ⊎ ((y ≢ x) × HasOnce x ys)

-- ---- what a test keeps that x alone passes

filter-nowhere : {X : Type 0} (test : X → Bool) (x : X) (ys : List X) → AllByRecursion (λ y. test y ≡ true → y ≡ x) ys → HasNowhere x ys → filter test ys ≡ []
filter-nowhere test x [] only none = refl
filter-nowhere test x (y ∷ ys) only none =
    ap (λ b. cond b (y ∷ filter test ys) (filter test ys)) (false_from_ne_true (test y) (λ e. none.0 (only.0 e))) ∙ filter-nowhere test x ys only.1 none.1

pub filter-once : {X : Type 0} (test : X → Bool) (x : X) (ys : List X) → test x ≡ true → AllByRecursion (λ y. test y ≡ true → y ≡ x) ys → HasOnce x ys → filter test ys ≡ x ∷ []
filter-once test x [] passes only once = absurd once
filter-once test x (y ∷ ys) passes only (inl h) =
    ap (λ b. cond b (y ∷ filter test ys) (filter test ys)) (ap test h.0 ∙ passes) ∙ ap₂ (λ z zs. z ∷ zs) h.0 (filter-nowhere test x ys only.1 h.1)
filter-once test x (y ∷ ys) passes only (inr h) =
    ap (λ b. cond b (y ∷ filter test ys) (filter test ys)) (false_from_ne_true (test y) (λ e. h.0 (only.0 e))) ∙ filter-once test x ys passes only.1 h.1

-- ---- lists of pairs

HasOnce-before : {X : Type 0} (x : X) (ys zs : List X) → HasOnce x ys → HasNowhere x zs → HasOnce x (ys ++ zs)
HasOnce-before x [] zs once none = absurd once
HasOnce-before x (y ∷ ys) zs (inl h) none = inl (h.0, AllByRecursion-append (λ y. y ≢ x) ys zs h.1 none)
HasOnce-before x (y ∷ ys) zs (inr h) none = inr (h.0, HasOnce-before x ys zs h.1 none)

HasOnce-after : {X : Type 0} (x : X) (ys zs : List X) → HasNowhere x ys → HasOnce x zs → HasOnce x (ys ++ zs)
HasOnce-after x [] zs none once = once
HasOnce-after x (y ∷ ys) zs none once = inr (none.0, HasOnce-after x ys zs none.1 once)

HasOnce-beside : {X Y : Type 0} (x : X) (y : Y) (ys : List Y) → HasOnce y ys → HasOnce {X = X × Y} (x, y) (map (λ y. (x, y)) ys)
HasOnce-beside x y [] once = absurd once
HasOnce-beside {X} {Y} x y (z ∷ zs) (inl h) =
    inl (ap (λ z. (x, z)) h.0, AllByRecursion-map (λ p. p ≢ (x, y)) (λ z. (x, z)) zs (AllByRecursion-weaker (λ z. z ≢ y) (λ z. (x, z) ≢ (x, y)) zs (λ z other e. other (ap (λ (p : X × Y). p.1) e)) h.1))
HasOnce-beside {X} {Y} x y (z ∷ zs) (inr h) = inr (λ e. h.0 (ap (λ (p : X × Y). p.1) e), HasOnce-beside x y zs h.1)

-- no pair with another first member is the pair of x and y
other_pairs : {X Y : Type 0} (w x : X) (y : Y) (zs : List Y) → w ≢ x → AllByRecursion (λ z. ◌≢◌ {A = X × Y} (w, z) (x, y)) zs
other_pairs {X} {Y} w x y zs other = AllByRecursion-everywhere (λ z. (w, z) ≢ (x, y)) zs (λ z e. other (ap (λ (p : X × Y). p.0) e))

pub HasOnce-pairs : {X Y : Type 0} (f : X → List Y) (x : X) (y : Y) (xs : List X) → HasOnce x xs → HasOnce y (f x) → HasOnce {X = X × Y} (x, y) (pairs xs f)
HasOnce-pairs f x y [] once inner = absurd once
HasOnce-pairs {X} {Y} f x y (w ∷ ws) (inl h) inner =
    HasOnce-before (x, y) (map (λ z. (w, z)) (f w)) (pairs ws f)
    (subst (λ w. HasOnce {X = X × Y} (x, y) (map (λ z. (w, z)) (f w))) (sym h.0) (HasOnce-beside x y (f x) inner))
    (AllByRecursion-pairs (λ w. w ≢ x) (λ p. p ≢ (x, y)) f ws (λ w. other_pairs w x y (f w)) h.1)
HasOnce-pairs f x y (w ∷ ws) (inr h) inner =
    HasOnce-after (x, y) (map (λ z. (w, z)) (f w)) (pairs ws f) (AllByRecursion-map (λ p. p ≢ (x, y)) (λ z. (w, z)) (f w) (other_pairs w x y (f w) h.0)) (HasOnce-pairs f x y ws h.1 inner)

-- ---- rising rows, and whole numbers in order

pub HasOnce-rising : (xs : List Row) (x : Row) → AreRising xs → has_row xs x ≡ true → HasOnce x xs
unfolding IsStrictlySortedBy
HasOnce-rising [] x rising h = absurd (true≢false (sym h))
HasOnce-rising (y ∷ ys) x rising h =
    elim (same_row x y) as (λ b. same_row x y ≡ b → (b || has_row ys x) ≡ true → HasOnce x (y ∷ ys)) [
      | true ↦ λ e _.
          let same = same_row-equal x y e in
          inl (sym same, AllByRecursion-weaker (λ z. row_cmp y z ≡ Less) (λ z. z ≢ x) ys (λ z less f. true≢false (sym (same_row-itself y) ∙ ap (same_row y) (sym same ∙ sym f) ∙ different_if_less y z less)) rising.0)
      | false ↦ λ e k. inr (λ f. true≢false (sym (same_row-itself x) ∙ ap (same_row x) (sym f) ∙ e), HasOnce-rising ys x rising.1 k)
    ] refl h

pub HasOnce-range_with_len : (a n d i : ℕ) → a + d ≡ i → d < n → HasOnce i (range_with_len a n)
HasOnce-range_with_len a zero d i e h = absurd (omega arith)
HasOnce-range_with_len a (suc n) zero i e h = inl (omega arith, AllByRecursion-range_with_len (λ j. j ≢ i) (a + 1) n (λ j low high f. omega arith))
HasOnce-range_with_len a (suc n) (suc d) i e h = inr (λ f. omega arith, HasOnce-range_with_len (a + 1) n d i (omega arith) (omega arith))
