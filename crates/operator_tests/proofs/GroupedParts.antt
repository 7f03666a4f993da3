-- Parts that a group takes.
use Rattle.std.specs.Prelude.{◌≡◌, ℕ, suc, ◌+◌, ◌<◌, ◌≤◌, All, List, [], ◌∷◌, ◌++◌, length, take}
use Rattle.std.specs.List.{AllByRecursion}
use Rattle.std.proofs.Common.{sym, ap, subst, ◌∙◌, arith, get_or}
use Rattle.std.proofs.Math.Seq.{take-suc}
use Rattle.std.proofs.lemmas.List.{take_all}
use Rattle.std.proofs.lemmas.List.Elements.{All-append, All-cons, All-head, All-nil, All-tail}
use Rattle.record_text.specs.KindLists.{kinds_of}
use Rattle.record_text.specs.declared.kinds.Kind.{Kind}
use Rattle.datasets.specs.Dataset.{rows}
use Rattle.datasets.specs.Entries.{Row, rows_of}
use Rattle.datasets.proofs.Members.{AllByRecursion-weaker}
use Rattle.plan_model.specs.Types.{HasColumns}
use Rattle.plan_model.specs.declared.expr.Expr.{Expr}
use Rattle.plan_model.specs.declared.step.Reducer.{Reducer}
use Rattle.weighted_set.specs.Changes.{entries_of}
use Rattle.weighted_set.specs.Parts.{IsListed, listed}
use Rattle.weighted_set.specs.declared.weighted.Weighted.{Weighted}
use Rattle.op_groupby.specs.Group.{GroupParts, HasKey}
use Rattle.op_parts.proofs.Members.{at-weighed}
use Rattle.operator_tests.specs.Keys.{IsOfKey}
use Rattle.trial_rows.specs.Columns.{two_ints}

rows_pass : (P : Row → Type 0) (list : List Weighted) → All (λ e. P e.row) list → AllByRecursion P (rows_of (entries_of list))
rows_pass P [] h = tt
rows_pass P (e ∷ list) h = (All-head (λ (e : Weighted). P e.row) e list h, rows_pass P list (All-tail (λ (e : Weighted). P e.row) e list h))

-- one member more
pub all_more : (P : Weighted → Type 0) (xs : List Weighted) (i : ℕ) (e : Weighted) → i < length xs → e ≡ get_or xs i e → All P (take i xs) → P e → All P (take (i + 1) xs)
all_more P xs i e below is before here =
    let n : i + 1 ≡ suc i = omega arith in
    subst (All P) (sym (ap (λ n. take n xs) n ∙ take-suc xs i e below ∙ ap (λ y. take i xs ++ y ∷ []) (sym is)))
    (All-append P (take i xs) (e ∷ []) before (All-cons P e [] here (All-nil P)))

pub all_there : (P : Weighted → Type 0) (xs : List Weighted) (i : ℕ) → length xs ≤ i → All P (take i xs) → All P xs
all_there P xs i past h = subst (All P) (take_all i xs past) h

-- a listed part whose rows have two numbers and the key
pub takes_listed : (op : GroupParts) (exprs : List Expr) (reduce : Reducer) (cols : List Kind) (k : Row) (list : List Weighted) → op ≡ record { key = exprs; reduce = reduce; cols = cols } → cols ≡ two_ints → IsListed list → All (λ e. IsOfKey exprs k e.row) list →
    HasColumns op.cols (listed list) × HasKey op k (listed list)
takes_listed op exprs reduce cols k list is two is_listed each =
    let all : AllByRecursion (IsOfKey exprs k) (rows (listed list)) = subst (AllByRecursion (IsOfKey exprs k)) (ap rows_of (sym is_listed)) (rows_pass (IsOfKey exprs k) list each) in
    subst (λ (op : GroupParts). HasColumns op.cols (listed list) × HasKey op k (listed list)) (sym is) (
      AllByRecursion-weaker (IsOfKey exprs k) (λ x. kinds_of x ≡ cols) (rows (listed list)) (λ x own. own.columns ∙ sym two) all,
      λ x weighed. (at-weighed (IsOfKey exprs k) (listed list) x all weighed).key,
    )
