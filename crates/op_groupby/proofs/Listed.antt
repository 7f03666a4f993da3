-- The listed part of a key, and the rows of it by falling weight.
use Rattle.std.specs.Prelude.{◌<◌, ◌≡◌, Bool, true, false, cond, All, IsTrue, List, [], ◌∷◌, length, nat_lt, Some, None, refl}
use Rattle.std.specs.List.{AllByRecursion, list_all}
use Rattle.std.proofs.Common.{arith, sym, ap, subst, ◌∙◌, Bor}
use Rattle.std.proofs.lemmas.List.{length-map}
use Rattle.std.proofs.lemmas.List.Elements.{All-nil, All-cons, All-head, All-tail, All-from_recursion}
use Rattle.std.proofs.lemmas.List.Sorted.{All-permutation, IsPermutation-map, length_permutation}
use Rattle.ratios.specs.Ratio.{Ratio}
use Rattle.record_text.specs.KindLists.{kind_of, kinds_of}
use Rattle.record_text.specs.declared.kinds.Kind.{Kind}
use Rattle.datasets.specs.Dataset.{Dataset, rows}
use Rattle.datasets.specs.Entries.{Row, rows_of}
use Rattle.operators.proofs.SingleWeights.{AllByRecursion-has_row}
use Rattle.plan_model.specs.Acceptance.{reducer_columns}
use Rattle.plan_model.specs.Evaluation.{reduced_to, row_of, value}
use Rattle.plan_model.specs.Types.{HasColumns}
use Rattle.plan_model.specs.declared.expr.Expr.{Expr}
use Rattle.plan_model.specs.declared.step.Reducer.{Reducer}
use Rattle.weighted_set.specs.Changes.{entries_of}
use Rattle.weighted_set.specs.Parts.{IsListed, listed}
use Rattle.weighted_set.specs.declared.weighted.Weighted.{Weighted}
use Rattle.weighted_set.proofs.Parts.{at-present}
use Rattle.level_walks.specs.Levels.{checked_part, group_part, part_in_range}
use Rattle.level_walks.specs.Walks.{IsByWeight}
use Rattle.level_walks.proofs.Checked.{walk-gives}
use Rattle.op_groupby.specs.Group.{GroupParts, HasKey, ordered, reads_within, walked}
use Rattle.op_groupby.specs.Taking.{ReadsRow, answer, none_taken, with_taken}
use Rattle.op_groupby.proofs.Reduced.{taken_alike, taken_all}
use Rattle.op_groupby.proofs.Steps.{length-ordered}

-- ---- what holds of each row of a part
of_rows : (P : Row → Type 0) (order : List (Bor Weighted)) → All P (rows_of (ordered order)) → All (λ e. P e.now.row) order
of_rows P [] h = All-nil (λ (e : Bor Weighted). P e.now.row)
of_rows P (e ∷ order) h =
    All-cons (λ (e : Bor Weighted). P e.now.row) e order (All-head P e.now.row (rows_of (ordered order)) h)
    (of_rows P order (All-tail P e.now.row (rows_of (ordered order)) h))

reads_row : (cols : List Kind) (reduce : Reducer) → IsTrue (reads_within cols reduce) → (x : Row) → kinds_of x ≡ cols → ReadsRow reduce x
reads_row cols reduce h x e =
    subst (λ n. IsTrue (list_all (λ c. nat_lt c n) (reducer_columns reduce))) (sym (ap length e) ∙ length-map x kind_of) h

first_narrow : (key : List Expr) (k : Row) (left : List Weighted) → length key < 16 → AllByRecursion (λ x. row_of key x ≡ k) (rows_of (entries_of left)) → 0 < length (entries_of left) → length k < 16
first_narrow key k [] narrow h some = absurd (omega arith)
first_narrow key k (e ∷ left) narrow h some = let n : length (row_of key e.row) ≡ length key = length-map key (λ q. value q e.row) in let m = ap length h.0 in omega arith

module _ (left : List Weighted) (is_listed : IsListed left) (order : List (Bor Weighted)) (falling : IsByWeight (entries_of left) (ordered order)) where
  pub rows_read : (cols : List Kind) (reduce : Reducer) → IsTrue (reads_within cols reduce) → HasColumns cols (listed left) → All (λ e. ReadsRow reduce e.now.row) order
  rows_read cols reduce within columns =
      let own : AllByRecursion (λ x. kinds_of x ≡ cols) (rows_of (entries_of left)) = subst (AllByRecursion (λ x. kinds_of x ≡ cols)) (ap rows_of is_listed) columns in
      let all = All-permutation (λ x. kinds_of x ≡ cols) (rows_of (entries_of left)) (rows_of (ordered order)) (IsPermutation-map (λ (e : Row × Ratio). e.0) (entries_of left) (ordered order) falling.same) (All-from_recursion (λ x. kinds_of x ≡ cols) (rows_of (entries_of left)) own) in
      of_rows (ReadsRow reduce) order (λ i d h. reads_row cols reduce within _ (all i d h))

  pub key_narrow : (op : GroupParts) (k : Row) → length op.key < 16 → HasKey op k (listed left) → 0 < length order → length k < 16
  key_narrow op k narrow has some =
      let own = subst (AllByRecursion (λ x. row_of op.key x ≡ k)) (ap rows_of is_listed) (AllByRecursion-has_row (λ x. row_of op.key x ≡ k) (rows (listed left)) (λ x there. has x (at-present (listed left) x there))) in
      let n = length-ordered order in
      let m = length_permutation (entries_of left) (ordered order) falling.same in
      first_narrow op.key k left narrow own (omega arith)

  -- the walk gives the part's output
  walk_is : (reduce : Reducer) (k : Row) → walked reduce k (ordered order) ≡ checked_part (reduced_to reduce) k (listed left)
  walk_is reduce k =
      walk-gives (with_taken reduce) (answer reduce) none_taken (reduced_to reduce) (taken_alike reduce) (taken_all reduce) k (listed left) (ordered order)
      (subst (λ es. IsByWeight es (ordered order)) (sym is_listed) falling)

  pub walked_out : (reduce : Reducer) (k : Row) → walked reduce k (ordered order) ≡ None → part_in_range (reduced_to reduce) k (listed left) ≡ false
  walked_out reduce k e = no (part_in_range (reduced_to reduce) k (listed left)) (group_part (reduced_to reduce) k (listed left)) (sym (walk_is reduce k) ∙ e)
    where
      no : (b : Bool) (A : Dataset) → cond b (Some A) None ≡ None → b ≡ false
      no true A h = cc
      no false A h = refl

  pub walked_in : (reduce : Reducer) (k : Row) (sums : Dataset) → walked reduce k (ordered order) ≡ Some sums → (part_in_range (reduced_to reduce) k (listed left) ≡ true) × (sums ≡ group_part (reduced_to reduce) k (listed left))
  walked_in reduce k sums e = yes (part_in_range (reduced_to reduce) k (listed left)) (group_part (reduced_to reduce) k (listed left)) (sym (walk_is reduce k) ∙ e)
    where
      yes : (b : Bool) (A : Dataset) → cond b (Some A) None ≡ Some sums → (b ≡ true) × (sums ≡ A)
      yes true A h = (refl, cc)
      yes false A h = cc
