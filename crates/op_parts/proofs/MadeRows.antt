-- The rows that expressions make, atom by atom.
use Rattle.std.specs.Prelude.{ℕ, ◌+◌, ◌≡◌, true, List, [], ◌∷◌, ◌++◌, take, slice_get, Some, pos}
use Rattle.std.specs.Option.{unwrap_or}
use Rattle.std.proofs.Common.{ap, ◌∙◌}
use Rattle.record_text.proofs.Lists.{map-front_more, passes_at}
use Rattle.record_text.specs.KindLists.{kinds_of}
use Rattle.record_text.specs.declared.atom.Atom.{Atom}
use Rattle.record_text.specs.declared.atom.Atom.TheVariants.{Int}
use Rattle.record_text.specs.declared.kinds.Kind.{Kind}
use Rattle.datasets.specs.Entries.{Row}
use Rattle.plan_model.specs.Acceptance.{have_kinds}
use Rattle.plan_model.specs.Evaluation.{row_of, value}
use Rattle.plan_model.specs.Values.{is_typed, term_of, value_if}
use Rattle.plan_model.specs.declared.expr.Expr.{Expr}

-- an expression of the list has a kind on a row with the columns
pub typed_at : (cols : List Kind) (es : List Expr) (i : ℕ) (e : Expr) (x : Row) → have_kinds cols es ≡ true → kinds_of x ≡ cols → slice_get es i ≡ Some e → is_typed (kinds_of x) (term_of e) ≡ true
typed_at cols es i e x h fits at = ap (λ ks. is_typed ks (term_of e)) fits ∙ passes_at (λ e. is_typed cols (term_of e)) es i e at h

-- the atoms of one expression more
pub row_of-more : (es : List Expr) (i : ℕ) (e : Expr) (x : Row) (atom : Atom) → slice_get es i ≡ Some e → value_if (term_of e) x ≡ Some atom → row_of (take (i + 1) es) x ≡ row_of (take i es) x ++ atom ∷ []
row_of-more es i e x atom at is =
    map-front_more (λ e. value e x) es i e at
    ∙ ap (λ o. row_of (take i es) x ++ unwrap_or o (Int (pos 0)) ∷ []) is
