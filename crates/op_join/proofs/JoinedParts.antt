-- What the listed parts of a key give: no rows where one has none, else their pairs.
use Rattle.std.specs.Prelude.{◌≡◌, ◌≢◌, ◌==◌, ◌&&◌, ◌||◌, ◌+◌, ◌≤◌, ℕ, All, Bool, true, false, cond, length, List, [], ◌∷◌, None, Some, refl}
use Rattle.std.specs.List.{AllByRecursion}
use Rattle.std.proofs.Common.{arith, ap, ap₂, subst, sym, ◌∙◌, true≢false}
use Rattle.std.proofs.lemmas.Bool.{and_left}
use Rattle.std.proofs.lemmas.Bool.Decides.{nat_tests}
use Rattle.std.proofs.lemmas.List.{length-map}
use Rattle.std.proofs.lemmas.List.Elements.{All-from_recursion}
use Rattle.ratios.specs.Ratio.{Ratio, ratio_add, zero_ratio}
use Rattle.record_text.specs.KindLists.{kinds_of}
use Rattle.record_text.specs.declared.kinds.Kind.{Kind}
use Rattle.datasets.specs.Dataset.{Dataset, norm, rows}
use Rattle.datasets.specs.Entries.{Row, rows_of}
use Rattle.datasets.proofs.Members.{AllByRecursion-weaker}
use Rattle.operators.specs.InRange.{key_in_range, weights_in_range}
use Rattle.operators.specs.Operators.{both_rows}
use Rattle.operators.specs.Weights.{gathered, pairs}
use Rattle.plan_model.specs.Sizes.{max_width}
use Rattle.plan_model.specs.Types.{HasColumns}
use Rattle.weighted_set.specs.Changes.{entries_of}
use Rattle.weighted_set.specs.Parts.{IsListed, listed}
use Rattle.weighted_set.specs.declared.weighted.Weighted.{Weighted}
use Rattle.op_parts.proofs.OneRows.{entries-empty}
use Rattle.op_join.specs.Join.{JoinParts, TakesJoinPart, checked_norms, has_no_row, is_empty, joined_part, pair_weight, part_in_range}
use Rattle.op_join.specs.KeyParts.{no_rows, pairs-none}
use Rattle.op_join.specs.Pairs.{FollowNarrowly, IsNarrow, all_pairs, entries_in_range}
use Rattle.op_join.proofs.ListedPairs.{entries-joined_part, weights-joined_part}
use Rattle.op_join.proofs.Quotients.{norms_other}
use Rattle.op_join.proofs.RisingPairs.{AreWide}

-- ---- lists without members

is_empty-told : {X : Type 0} (xs : List X) → (length xs == 0) ≡ is_empty xs
is_empty-told [] = refl
is_empty-told (x ∷ xs) = grind (arith, nat_tests)

is_empty-listed : (list : List Weighted) → is_empty (rows_of (entries_of list)) ≡ is_empty list
is_empty-listed [] = refl
is_empty-listed (x ∷ list) = refl

pub has_no_row-listed : (list : List Weighted) → IsListed list → has_no_row (listed list) ≡ (length list == 0)
has_no_row-listed list is_listed = ap (λ es. is_empty (rows_of es)) is_listed ∙ is_empty-listed list ∙ sym (is_empty-told list)

-- ---- parts of which one has no rows

either_true : (a b c : Bool) → b ≡ true → (a || b || c) ≡ true
either_true true b c h = refl
either_true false b c h = ap (λ b. b || c) h

module _ (P Q : Dataset) where
  pub entries-no_left : has_no_row P ≡ true → (joined_part P Q).entries ≡ []
  entries-no_left h = ap (λ xs. (gathered both_rows (pair_weight P Q) (pairs xs (λ x. rows Q))).entries) (no_rows (rows P) h) ∙ entries-empty

  pub entries-no_right : has_no_row Q ≡ true → (joined_part P Q).entries ≡ []
  entries-no_right h =
      ap (λ ps. (gathered both_rows (pair_weight P Q) ps).entries) (ap (λ ys. pairs (rows P) (λ x. ys)) (no_rows (rows Q) h) ∙ pairs-none (rows P)) ∙ entries-empty

  pub fits-no_left : has_no_row P ≡ true → part_in_range P Q ≡ true
  fits-no_left h = ap (λ a. a || has_no_row Q || (key_in_range P Q && weights_in_range (joined_part P Q))) h

  pub fits-no_right : has_no_row Q ≡ true → part_in_range P Q ≡ true
  fits-no_right h = either_true (has_no_row P) (has_no_row Q) (key_in_range P Q && weights_in_range (joined_part P Q)) h

  -- ---- parts that both have rows

  pub fits-both : has_no_row P ≡ false → has_no_row Q ≡ false → part_in_range P Q ≡ (key_in_range P Q && weights_in_range (joined_part P Q))
  fits-both h k = ap₂ (λ a b. a || b || (key_in_range P Q && weights_in_range (joined_part P Q))) h k

  pub norms_of_rows : has_no_row P ≡ false → ratio_add (norm P) (norm Q) ≢ zero_ratio
  norms_of_rows h = norms_other P Q (λ e. true≢false (sym (ap has_no_row e ∙ ap (λ es. is_empty (rows_of es)) entries-empty) ∙ h))

  -- what is answered for both norms
  pub norms-some : (n : Ratio) → Some n ≡ checked_norms P Q → (key_in_range P Q ≡ true) × (n ≡ ratio_add (norm P) (norm Q))
  norms-some n e = some (key_in_range P Q) e
    where
      some : (b : Bool) → Some n ≡ cond b (Some (ratio_add (norm P) (norm Q))) None → (b ≡ true) × (n ≡ ratio_add (norm P) (norm Q))
      some true e = (refl, cc)
      some false e = absurd cc

  pub norms-none : None ≡ checked_norms P Q → key_in_range P Q ≡ false
  norms-none e = none (key_in_range P Q) e
    where
      none : (b : Bool) → None ≡ cond b (Some (ratio_add (norm P) (norm Q))) None → b ≡ false
      none true e = absurd cc
      none false e = refl

-- ---- widths

listed_rows : (R : Row → Type 0) (list : List Weighted) → AllByRecursion R (rows_of (entries_of list)) → AllByRecursion (λ x. R x.row) list
listed_rows R [] h = tt
listed_rows R (x ∷ list) h = (h.0, listed_rows R list h.1)

pub wide_listed : (cols : List Kind) (list : List Weighted) → IsListed list → HasColumns cols (listed list) → AreWide (length cols) list
wide_listed cols list is_listed h =
    AllByRecursion-weaker (λ x. kinds_of x.row ≡ cols) (λ x. length x.row ≡ length cols) list (λ x k. sym (length-map x.row _) ∙ ap length k)
    (listed_rows (λ x. kinds_of x ≡ cols) list (subst (λ es. AllByRecursion (λ x. kinds_of x ≡ cols) (rows_of es)) is_listed h))

pub narrow_pairs : (m n : ℕ) (xs ys : List Weighted) → m + n ≤ max_width → AreWide m xs → AreWide n ys → All (FollowNarrowly ys) xs
narrow_pairs m n xs ys narrow wide_xs wide_ys =
    All-from_recursion (FollowNarrowly ys) xs
    (AllByRecursion-weaker (λ x. length x.row ≡ m) (FollowNarrowly ys) xs
    (λ x wide. All-from_recursion (IsNarrow x) ys (AllByRecursion-weaker (λ y. length y.row ≡ n) (IsNarrow x) ys (λ y other. omega arith) wide_ys)) wide_xs)

-- ---- two listed parts that both have rows

module _ (op : JoinParts) (k : Row) (left right : List Weighted) (is_left : IsListed left) (is_right : IsListed right) where
  abbrev P : Dataset
  P = listed left

  abbrev Q : Dataset
  Q = listed right

  module _ (some_left : (length left == 0) ≡ false) (some_right : (length right == 0) ≡ false) where
    fits-some : part_in_range P Q ≡ (key_in_range P Q && weights_in_range (joined_part P Q))
    fits-some = fits-both P Q (has_no_row-listed left is_left ∙ some_left) (has_no_row-listed right is_right ∙ some_right)

    pub no_norms : None ≡ checked_norms P Q → part_in_range P Q ≡ false
    no_norms none = fits-some ∙ and_left (key_in_range P Q) (weights_in_range (joined_part P Q)) (norms-none P Q none)

    module _ (d : Ratio) (norms : Some d ≡ checked_norms P Q) where
      pub norms_not_zero : d ≢ zero_ratio
      norms_not_zero e = norms_of_rows P Q (has_no_row-listed left is_left ∙ some_left) (sym (norms-some P Q d norms).1 ∙ e)

      module _ (taken : TakesJoinPart op k P Q) where
        wide : AreWide (length op.left) left
        wide = wide_listed op.left left is_left taken.0

        other : ratio_add (norm P) (norm Q) ≢ zero_ratio
        other = norms_of_rows P Q (has_no_row-listed left is_left ∙ some_left)

        -- the output is the pairs of the rows
        pub entries-pairs : (joined_part P Q).entries ≡ all_pairs d left right
        entries-pairs = entries-joined_part left right is_left is_right (length op.left) wide other ∙ ap (λ n. all_pairs n left right) (sym (norms-some P Q d norms).1)

        -- and the part is in range where they are
        pub fits-pairs : part_in_range P Q ≡ entries_in_range (all_pairs d left right)
        fits-pairs =
            fits-some
            ∙ ap (λ a. a && weights_in_range (joined_part P Q)) (norms-some P Q d norms).0
            ∙ weights-joined_part left right is_left is_right (length op.left) wide other
            ∙ ap (λ n. entries_in_range (all_pairs n left right)) (sym (norms-some P Q d norms).1)
