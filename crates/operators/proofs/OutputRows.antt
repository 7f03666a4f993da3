-- What holds of the rows that an operator gives, from what holds of the rows it takes.
use Rattle.std.specs.Prelude.{◌≢◌, ◌<◌, ℕ, Bool, true, false, cond, filter, length, List, [], ◌∷◌, ◌++◌, map}
use Rattle.std.specs.List.{AllByRecursion, range_with_len}
use Rattle.std.specs.Ordering.{match_ordering}
use Rattle.std.specs.declared.cmp.Ordering.TheVariants.{Less, Equal, Greater}
use Rattle.std.proofs.Common.{arith}
use Rattle.ratios.specs.Ratio.{Ratio}
use Rattle.record_text.specs.Order.{row_cmp}
use Rattle.record_text.specs.declared.atom.Atom.{Atom}
use Rattle.datasets.specs.Dataset.{Dataset, add_at, at, dataset_of, empty, rows, rows_of_either, set_at, with_added}
use Rattle.datasets.specs.Entries.{Entries, Row, in_front, is_zero, rows_of, same_row, set_in}
use Rattle.datasets.proofs.RowLists.{AllByRecursion-with_rows}
use Rattle.datasets.proofs.Members.{AllByRecursion-filter, AllByRecursion-map, AllByRecursion-weaker}
use Rattle.operators.specs.Weights.{gathered, tabulated}
use Rattle.operators.specs.Operators.{Giving, applying, both_rows, cells, filtered, group_row, grouped, half_gap, joined, joint_weight, key_levels, keys, levels, matches, numbered, part, piece, pointwise, pointwise_weight, selected, shaved, spread, top}
use Rattle.operators.proofs.Levels.{levels_have_tops}
use Rattle.operators.proofs.Members.{AllByRecursion-pairs, AllByRecursion-range_with_len}

-- P holds of each row of a dataset
abbrev pub AllRows : (Row → Type 0) → Dataset → Type 0
AllRows P A = AllByRecursion P (rows A)

-- ---- datasets by their entries

module _ (P : Row → Type 0) where
  AllByRecursion-in_front : (x : Row) (w : Ratio) (es : Entries) → P x → AllByRecursion P (rows_of es) → AllByRecursion P (rows_of (in_front x w es))
  AllByRecursion-in_front x w es p h = elim (is_zero w) as (λ b. AllByRecursion P (rows_of (cond b es ((x, w) ∷ es)))) [ true ↦ h | false ↦ (p, h) ]

  AllByRecursion-set_in : (x : Row) (w : Ratio) (es : Entries) → P x → AllByRecursion P (rows_of es) → AllByRecursion P (rows_of (set_in x w es))
  AllByRecursion-set_in x w [] p h = AllByRecursion-in_front x w [] p tt
  AllByRecursion-set_in x w (e ∷ es) p h =
      elim (row_cmp x e.0) as (λ o. AllByRecursion P (rows_of (match_ordering o (in_front x w (e ∷ es)) (in_front e.0 w es) (e ∷ set_in x w es)))) [
        | Less ↦ AllByRecursion-in_front x w (e ∷ es) p h
        | Equal ↦ AllByRecursion-in_front e.0 w es h.0 h.1
        | Greater ↦ (h.0, AllByRecursion-set_in x w es p h.1)
      ]

  pub AllRows-empty : AllRows P empty
  unfolding empty
  AllRows-empty = tt

  pub AllRows-set_at : (x : Row) (w : Ratio) (A : Dataset) → P x → AllRows P A → AllRows P (set_at x w A)
  unfolding set_at
  AllRows-set_at x w A p h = AllByRecursion-set_in x w A.entries p h

  pub AllRows-with_added : (A : Dataset) (es : Entries) → AllRows P A → AllByRecursion (λ e. P e.0) es → AllRows P (with_added A es)
  AllRows-with_added A [] h k = h
  AllRows-with_added A (e ∷ es) h k = AllRows-with_added (add_at e.0 e.1 A) es (AllRows-set_at e.0 _ A k.0 h) k.1

  pub AllRows-dataset_of : (es : Entries) → AllByRecursion (λ e. P e.0) es → AllRows P (dataset_of es)
  unfolding dataset_of
  AllRows-dataset_of [] h = AllRows-empty
  AllRows-dataset_of (e ∷ es) h = AllRows-set_at e.0 e.1 (dataset_of es) h.0 (AllRows-dataset_of es h.1)

  pub AllRows-tabulated : (f : Row → Ratio) (xs : List Row) → AllByRecursion P xs → AllRows P (tabulated f xs)
  AllRows-tabulated f xs h = AllRows-dataset_of (map (λ x. (x, f x)) xs) (AllByRecursion-map (λ e. P e.0) (λ x. (x, f x)) xs h)

  pub AllRows-gathered : {X : Type 0} (row : X → Row) (weight : X → Ratio) (xs : List X) → AllByRecursion (λ x. P (row x)) xs → AllRows P (gathered row weight xs)
  AllRows-gathered row weight xs h = AllRows-with_added empty (map (λ x. (row x, weight x)) xs) AllRows-empty (AllByRecursion-map (λ e. P e.0) (λ x. (row x, weight x)) xs h)

  -- ---- operators that give rows they take

  pub AllRows-filtered : (test : Row → Bool) (A : Dataset) → AllRows P A → AllRows P (filtered test A)
  AllRows-filtered test A h = AllRows-tabulated (at A) (filter test (rows A)) (AllByRecursion-filter P test (rows A) h)

  pub AllRows-pointwise : (op : Ratio → Ratio → Ratio) (A B : Dataset) → AllRows P A → AllRows P B → AllRows P (pointwise op A B)
  AllRows-pointwise op A B h k = AllRows-tabulated (pointwise_weight op A B) (rows_of_either A B) (AllByRecursion-with_rows P (rows A) (rows B) h k)

-- ---- operators that make rows: P of the rows taken, Q of the rows given

pub AllRows-selected : (P Q : Row → Type 0) (f : Row → Row) (A : Dataset) → ((x : Row) → P x → Q (f x)) → AllRows P A → AllRows Q (selected f A)
AllRows-selected P Q f A g h = AllRows-gathered Q f (at A) (rows A) (AllByRecursion-weaker P (λ x. Q (f x)) (rows A) g h)

pub AllRows-spread : (P Q : Row → Type 0) (over : ℕ) (items : List Giving) (A : Dataset) → ((y : Row) → P y → AllByRecursion (λ i. Q (i.row y)) (applying items y)) → AllRows P A → AllRows Q (spread over items A)
AllRows-spread P Q over items A g h = AllRows-gathered Q _ _ _ (AllByRecursion-pairs P (λ p. Q (p.1.row p.0)) (applying items) (rows A) g h)

pub AllRows-shaved : (P Q : Row → Type 0) (fs : List Ratio) (A : Dataset) → ((x : Row) (i : ℕ) → i < length fs → P x → Q (numbered (x, i))) → AllRows P A → AllRows Q (shaved fs A)
AllRows-shaved P Q fs A g h =
    AllRows-gathered Q numbered (λ p. piece fs (at A p.0) p.1) (cells fs A)
    (AllByRecursion-pairs P (λ p. Q (numbered p)) (λ x. range_with_len 0 (length fs)) (rows A) (λ x p. AllByRecursion-range_with_len (λ i. Q (numbered (x, i))) 0 (length fs) (λ i low high. g x i (omega arith) p)) h)

pub AllRows-joined : (P Q R : Row → Type 0) (f g : Row → Row) (A B : Dataset) → ((x y : Row) → P x → Q y → R (x ++ y)) → AllRows P A → AllRows Q B → AllRows R (joined f g A B)
AllRows-joined P Q R f g A B both h k =
    AllRows-gathered R both_rows (joint_weight f g A B) (matches f g A B)
    (AllByRecursion-pairs P (λ p. R (both_rows p)) (λ x. filter (λ y. same_row (f x) (g y)) (rows B)) (rows A)
    (λ x p. AllByRecursion-weaker Q (λ y. R (x ++ y)) (filter (λ y. same_row (f x) (g y)) (rows B)) (λ y. both x y p) (AllByRecursion-filter Q (λ y. same_row (f x) (g y)) (rows B) k)) h)

-- ---- Group: P of the rows, K of their keys, Q of the rows given

pub AllByRecursion-keys : (P K : Row → Type 0) (key : Row → Row) (A : Dataset) → ((x : Row) → P x → K (key x)) → AllRows P A → AllByRecursion K (keys key A)
AllByRecursion-keys P K key A keyed h = AllByRecursion-with_rows K (map key (rows A)) [] (AllByRecursion-map K key (rows A) (AllByRecursion-weaker P (λ x. K (key x)) (rows A) keyed h)) tt

pub AllByRecursion-top : (P : Row → Type 0) (A : Dataset) (t : Ratio) → AllRows P A → AllByRecursion P (top A t)
AllByRecursion-top P A t h = AllByRecursion-filter P _ (rows A) h

pub AllRows-grouped : (P K Q : Row → Type 0) (key : Row → Row) (reduce : List Row → Atom) (A : Dataset) → ((x : Row) → P x → K (key x)) →
    ((k : Row) (xs : List Row) → K k → xs ≢ [] → AllByRecursion P xs → Q (k ++ reduce xs ∷ [])) → AllRows P A → AllRows Q (grouped key reduce A)
AllRows-grouped P K Q key reduce A keyed out h =
    AllRows-gathered Q (group_row key reduce A) (half_gap key A) (key_levels key A)
    (AllByRecursion-pairs K (λ p. Q (group_row key reduce A p)) (λ k. levels (part key k A)) (keys key A)
    (λ k q. AllByRecursion-weaker (λ t. top (part key k A) t ≢ []) (λ t. Q (group_row key reduce A (k, t))) (levels (part key k A))
    (λ t some. out k (top (part key k A) t) q some (AllByRecursion-top P (part key k A) t (AllRows-filtered P _ A h))) (levels_have_tops (part key k A)))
    (AllByRecursion-keys P K key A keyed h))
