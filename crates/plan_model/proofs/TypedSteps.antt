-- The rows and the signs of a step's dataset, from those of the datasets of the steps before.
use Rattle.std.specs.Prelude.{◌≡◌, ◌≢◌, ◌<◌, ℕ, zero, suc, pos, Bool, true, false, ◌&&◌, ◌||◌, not, List, [], ◌∷◌, ◌++◌, length, map, slice_get, slice_index_or, Option, Some, None, option_and_then, option_map}
use Rattle.std.specs.List.{AllByRecursion, list_all}
use Rattle.std.specs.Option.{unwrap_or}
use Rattle.std.proofs.Common.{sym, ap, ap₂, subst, ◌∙◌, inl, inr, true≢false}
use Rattle.std.proofs.lemmas.Bool.{and_cases, and_parts, not-true, or_parts}
use Rattle.std.proofs.lemmas.List.{map-append}
use Rattle.ratios.specs.Ratio.{Ratio, zero_ratio}
use Rattle.ratios.proofs.AtMost.{at_most_itself}
use Rattle.record_text.specs.declared.atom.Atom.TheVariants as atom
use Rattle.record_text.specs.declared.kinds.Kind.{Kind}
use Rattle.record_text.specs.declared.kinds.Kind.TheVariants.{Int}
use Rattle.record_text.specs.KindLists.{kind_of, kinds_eq, kinds_of}
use Rattle.record_text.proofs.Equality.{kinds_decided}
use Rattle.datasets.specs.Dataset.{Dataset, empty}
use Rattle.datasets.specs.Entries.{Row}
use Rattle.datasets.proofs.Members.{AllByRecursion-filter}
use Rattle.operators.specs.Laws.{NoneNegative}
use Rattle.operators.specs.Operators.{applying, filtered, grouped, joined, numbered, pointwise, selected, shaved, spread}
use Rattle.operators.proofs.OutputRows.{AllRows-filtered, AllRows-grouped, AllRows-joined, AllRows-pointwise, AllRows-selected, AllRows-shaved, AllRows-spread}
use Rattle.operators.proofs.OutputSigns.{NoneNegative-concat, NoneNegative-filtered, NoneNegative-grouped, NoneNegative-intersect, NoneNegative-joined, NoneNegative-selected, NoneNegative-shaved, NoneNegative-spread, NoneNegative-union}
use Rattle.plan_model.specs.declared.expr.Expr.{Expr}
use Rattle.plan_model.specs.declared.step.Item.{Item}
use Rattle.plan_model.specs.declared.step.Reducer.{Reducer}
use Rattle.plan_model.specs.declared.step.SetKind.{SetKind}
use Rattle.plan_model.specs.declared.step.Step.{Step}
use Rattle.plan_model.specs.declared.source_types.SourceType.{SourceType}
use Rattle.plan_model.specs.Acceptance.{are_ints, guards, have_kinds, matches_kinds, may_group, step_has_kinds, takes_sign}
use Rattle.plan_model.specs.Evaluation.{Family, dataset_at, eval_step, giving, left_dataset, operator_of, passes, pieces, reduced_to, row_of, set_weight}
use Rattle.plan_model.specs.Inputs.{inputs}
use Rattle.plan_model.specs.Sources.{place_of}
use Rattle.plan_model.specs.Types.{HasColumns, Keeps, columns_at, columns_step, first_row, flag_at, kinds_over, left_columns, left_sign, output_columns, output_sign, reducer_kind, set_sign, sign_step}
use Rattle.plan_model.proofs.Reducers.{kind-reduced_to}
use Rattle.plan_model.proofs.TypedValues.{kinds-row_of}

-- the rows have these columns, and no weight is negative where none may be
pub record IsTyped (cols : List Kind) (flag : Bool) (A : Dataset) : Type 0 where
  pub rows : HasColumns cols A
  pub sign : flag ≡ false → NoneNegative A

pub IsTyped-empty : (cols : List Kind) (flag : Bool) → IsTyped cols flag empty
unfolding empty
IsTyped-empty cols flag = record { rows = tt; sign = λ e x. at_most_itself zero_ratio }

-- ---- sources

-- a source's columns and sign, and those that stand for a source that is not there
abbrev source_columns : Option SourceType → List Kind
source_columns t = unwrap_or (option_map (λ t. t.kinds) t) []

abbrev source_sign : Option SourceType → Bool
source_sign t = unwrap_or (option_map (λ t. t.signed) t) true

IsTyped-dataset_at : (types : List SourceType) (F : Family) (i : ℕ) → Keeps types F → IsTyped (source_columns (slice_get types i)) (source_sign (slice_get types i)) (dataset_at F i)
IsTyped-dataset_at [] [] i h = IsTyped-empty [] true
IsTyped-dataset_at [] (A ∷ F) i h = absurd h
IsTyped-dataset_at (t ∷ types) [] i h = absurd h
IsTyped-dataset_at (t ∷ types) (A ∷ F) zero h = record { rows = h.0.columns; sign = h.0.sign }
IsTyped-dataset_at (t ∷ types) (A ∷ F) (suc i) h = IsTyped-dataset_at types F i h.1

IsTyped-source : (types : List SourceType) (F : Family) (place : Option ℕ) → Keeps types F →
    IsTyped (source_columns (option_and_then (slice_get types) place)) (source_sign (option_and_then (slice_get types) place)) (unwrap_or (option_map (dataset_at F) place) empty)
IsTyped-source types F None h = IsTyped-empty [] true
IsTyped-source types F (Some i) h = IsTyped-dataset_at types F i h

-- ---- parts of steps

kinds_same : (a b : List Kind) → kinds_eq a b ≡ true → a ≡ b
kinds_same a b = (kinds_decided a b).0

-- the rows that items give have the kinds of the expressions of each item
kinds-giving : (cols first : List Kind) (y : Row) (items : List Item) → kinds_of y ≡ cols → list_all (λ i. have_kinds cols i.row && kinds_eq first (kinds_over cols i.row)) items ≡ true →
    AllByRecursion (λ g. kinds_of (g.row y) ≡ first) (giving items)
kinds-giving cols first y [] e same = tt
kinds-giving cols first y (i ∷ items) e same =
    let parts = and_parts (have_kinds cols i.row && kinds_eq first (kinds_over cols i.row)) _ same in
    let item = and_parts (have_kinds cols i.row) _ parts.0 in
    (kinds-row_of i.row y ∙ ap (λ ks. kinds_over ks i.row) e ∙ sym (kinds_same first (kinds_over cols i.row) item.1), kinds-giving cols first y items e parts.1)

NoneNegative-set : (kind : SetKind) (a b : Bool) (A B : Dataset) → set_sign kind a b ≡ false → (a ≡ false → NoneNegative A) → (b ≡ false → NoneNegative B) →
    NoneNegative (pointwise (set_weight kind) A B)
NoneNegative-set SetKind.Union a b A B e h k = NoneNegative-union A B (elim (and_cases a b e) [ inl p ↦ inl (h p) | inr p ↦ inr (k p) ])
NoneNegative-set SetKind.Intersect a b A B e h k = let parts = or_parts a b e in NoneNegative-intersect A B (h parts.0) (k parts.1)
NoneNegative-set SetKind.Concat a b A B e h k = let parts = or_parts a b e in NoneNegative-concat A B (h parts.0) (k parts.1)
NoneNegative-set SetKind.Except a b A B e h k = absurd (true≢false e)

-- ---- operators

-- the rows of the left and of the right input have their columns and their signs
module _ (l r : List Kind) (a b : Bool) (A B : Dataset) (left : IsTyped l a A) (right : IsTyped r b B) where
  -- the row has the columns of the left input
  abbrev OnLeft : Row → Type 0
  OnLeft x = kinds_of x ≡ l

  kinds_row_of : (es : List Expr) (x : Row) → OnLeft x → kinds_of (row_of es x) ≡ kinds_over l es
  kinds_row_of es x e = kinds-row_of es x ∙ ap (λ ks. kinds_over ks es) e

  IsTyped-filtered : (test : Row → Bool) → IsTyped l a (filtered test A)
  IsTyped-filtered test = record { rows = AllRows-filtered OnLeft test A left.rows; sign = λ e. NoneNegative-filtered test A (left.sign e) }

  IsTyped-selected : (row : List Expr) → IsTyped (kinds_over l row) a (selected (row_of row) A)
  IsTyped-selected row = record {
    rows = AllRows-selected OnLeft (λ z. kinds_of z ≡ kinds_over l row) (row_of row) A (kinds_row_of row) left.rows;
    sign = λ e. NoneNegative-selected (row_of row) A (left.sign e);
  }

  IsTyped-spread : (of over : ℕ) (items : List Item) → matches_kinds (Step.Many of over items) l r ≡ true → IsTyped (kinds_over l (first_row items)) a (spread over (giving items) A)
  IsTyped-spread of over items typed =
      let first = kinds_over l (first_row items) in
      let same = (and_parts (are_ints l (guards items)) _ typed).1 in
      let given : (y : Row) → OnLeft y → AllByRecursion (λ g. kinds_of (g.row y) ≡ first) (applying (giving items) y) =
      λ y e. AllByRecursion-filter (λ g. kinds_of (g.row y) ≡ first) (λ g. g.applies y) (giving items) (kinds-giving l first y items e same) in
      record {
        rows = AllRows-spread OnLeft (λ z. kinds_of z ≡ first) over (giving items) A given left.rows;
        sign = λ e. NoneNegative-spread over (giving items) A (left.sign e);
      }

  IsTyped-shaved : (fs : List Ratio) → IsTyped (l ++ Int ∷ []) false (shaved fs A)
  IsTyped-shaved fs =
      let numbered_kinds : (x : Row) (i : ℕ) → i < length fs → OnLeft x → kinds_of (numbered (x, i)) ≡ l ++ Int ∷ [] =
      λ x i inside e. map-append kind_of x (atom.Int (pos i) ∷ []) ∙ ap (λ ks. ks ++ Int ∷ []) e in
      record { rows = AllRows-shaved OnLeft (λ z. kinds_of z ≡ l ++ Int ∷ []) fs A numbered_kinds left.rows; sign = λ e. NoneNegative-shaved fs A }

  IsTyped-set : (kind : SetKind) → kinds_eq l r ≡ true → IsTyped l (set_sign kind a b) (pointwise (set_weight kind) A B)
  IsTyped-set kind typed =
      let same = kinds_same l r typed in
      record {
        rows = AllRows-pointwise OnLeft (set_weight kind) A B left.rows (subst (λ cols. HasColumns cols B) (sym same) right.rows);
        sign = λ e. NoneNegative-set kind a b A B e left.sign right.sign;
      }

  IsTyped-joined : (f g : Row → Row) → IsTyped (l ++ r) (a || b) (joined f g A B)
  IsTyped-joined f g =
      let both : (x y : Row) → OnLeft x → kinds_of y ≡ r → kinds_of (x ++ y) ≡ l ++ r = λ x y p q. map-append kind_of x y ∙ ap₂ (λ ks ls. ks ++ ls) p q in
      record {
        rows = AllRows-joined OnLeft (λ y. kinds_of y ≡ r) (λ z. kinds_of z ≡ l ++ r) f g A B both left.rows right.rows;
        sign = λ e. let parts = or_parts a b e in NoneNegative-joined f g A B (left.sign parts.0) (right.sign parts.1);
      }

  IsTyped-grouped : (key : List Expr) (reduce : Reducer) → not a ≡ true → IsTyped (kinds_over l key ++ reducer_kind l reduce ∷ []) false (grouped (row_of key) (reduced_to reduce) A)
  IsTyped-grouped key reduce sign =
      let ks = kinds_over l key in
      let out : (k : Row) (xs : List Row) → kinds_of k ≡ ks → xs ≢ [] → AllByRecursion OnLeft xs → kinds_of (k ++ reduced_to reduce xs ∷ []) ≡ ks ++ reducer_kind l reduce ∷ [] =
      λ k xs e some each. map-append kind_of k (reduced_to reduce xs ∷ []) ∙ ap₂ (λ ls j. ls ++ j ∷ []) e (kind-reduced_to l reduce xs some each) in
      record {
        rows = AllRows-grouped OnLeft (λ k. kinds_of k ≡ ks) (λ z. kinds_of z ≡ ks ++ reducer_kind l reduce ∷ []) (row_of key) (reduced_to reduce) A (kinds_row_of key) out left.rows;
        sign = λ e. NoneNegative-grouped (row_of key) (reduced_to reduce) A (left.sign (not-true a sign));
      }

  -- an operator whose kinds and whose input's sign are as they have to be
  IsTyped-operator_of : (s : Step) → matches_kinds s l r ≡ true → takes_sign s a ≡ true → IsTyped (output_columns s l r) (output_sign s a b) (operator_of s A B)
  IsTyped-operator_of (Step.Source name) typed sign = left
  IsTyped-operator_of (Step.Filter of test) typed sign = IsTyped-filtered (passes test)
  IsTyped-operator_of (Step.Select of row) typed sign = IsTyped-selected row
  IsTyped-operator_of (Step.Many of over items) typed sign = IsTyped-spread of over items typed
  IsTyped-operator_of (Step.Shave of runs) typed sign = IsTyped-shaved (pieces runs)
  IsTyped-operator_of (Step.Set kind i j) typed sign = IsTyped-set kind typed
  IsTyped-operator_of (Step.Join i j left_key right_key) typed sign = IsTyped-joined (row_of left_key) (row_of right_key)
  IsTyped-operator_of (Step.Group of key reduce) typed sign = IsTyped-grouped key reduce sign

-- ---- steps

module _ (cs : List (List Kind)) (bs : List Bool) (As : List Dataset) (h : (i : ℕ) → IsTyped (columns_at cs i) (flag_at bs i) (dataset_at As i)) where
  -- each input of a step has the columns and the sign of the step that it names
  IsTyped-input : (is : List ℕ) (n : ℕ) → IsTyped (slice_index_or (map (columns_at cs) is) n []) (slice_index_or (map (flag_at bs) is) n true) (slice_index_or (map (dataset_at As) is) n empty)
  IsTyped-input [] n = IsTyped-empty [] true
  IsTyped-input (i ∷ is) zero = h i
  IsTyped-input (i ∷ is) (suc n) = IsTyped-input is n

  pub IsTyped-left : (types : List SourceType) (F : Family) (s : Step) → Keeps types F → IsTyped (left_columns types cs s) (left_sign types bs s) (left_dataset types F As s)
  IsTyped-left types F (Step.Source name) keeps = IsTyped-source types F (place_of name types) keeps
  IsTyped-left types F s keeps = IsTyped-input (inputs s) 0

  -- a step that passes its checks
  pub IsTyped-eval_step : (types : List SourceType) (F : Family) (s : Step) → Keeps types F → step_has_kinds types s cs ≡ true → may_group types s bs ≡ true →
      IsTyped (columns_step types s cs) (sign_step types s bs) (eval_step types F s As)
  IsTyped-eval_step types F s keeps typed sign = IsTyped-operator_of _ _ _ _ _ _ (IsTyped-left types F s keeps) (IsTyped-input (inputs s) 1) s typed sign
