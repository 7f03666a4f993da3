-- The value of an expression on a row, and its kind over rows of some columns.
use Rattle.std.specs.Prelude.{ℕ, Bool, ◌&&◌, true, nat_lt, if◌then◌else◌, is_some, List, [], ◌∷◌, length, slice_get, Option, Some, None, option_and_then, Result, Err, ok_or}
use Rattle.record_text.specs.declared.atom.Atom.{Atom}
use Rattle.record_text.specs.declared.kinds.Kind.{Kind}
use Rattle.record_text.specs.KindLists.{kind_of, kinds_eq}
use Rattle.datasets.specs.Entries.{Row}
use Rattle.prim_table.specs.Tables.{args1, args2, args3, prim1, prim2, prim3, result1, result2, result3}
use Rattle.plan_model.specs.declared.expr.Expr.{Expr, fold-Expr}
use Rattle.plan_model.specs.declared.expr.Expr.TheOpen.{Expr-F}
use Rattle.plan_model.specs.declared.expr.ExprFault.{ExprFault}
use Rattle.plan_model.specs.declared.expr.ExprFault.TheVariants as fault

-- ---- expressions, as definitions go through them

-- a column, a constant, or a primitive at a place of its table with its arguments
pub data Term : Type 0 where
  col : ℕ → Term
  const : Atom → Term
  one : ℕ → Term → Term
  two : ℕ → Term → Term → Term
  three : ℕ → Term → Term → Term → Term

abbrev pub term_step : Expr-F Term → Term
term_step (Expr-F.Col c) = col c
term_step (Expr-F.Const a) = const a
term_step (Expr-F.One p a) = one p a
term_step (Expr-F.Two p a b) = two p a b
term_step (Expr-F.Three p a b c) = three p a b c

-- an expression as a term
abbrev pub term_of : Expr → Term
term_of e = fold-Expr Term term_step e

-- ---- values

-- the value on a row: the atom at a column, a constant, or what a primitive answers at the values of its
-- arguments; none where the row lacks a column or an argument has another kind
abbrev pub value_if : Term → Row → Option Atom
value_if (col c) x = slice_get x c
value_if (const a) x = Some a
value_if (one p a) x = option_and_then (prim1 p) (value_if a x)
value_if (two p a b) x = option_and_then (λ u. option_and_then (prim2 p u) (value_if b x)) (value_if a x)
value_if (three p a b c) x =
    option_and_then (λ u. option_and_then (λ v. option_and_then (prim3 p u v) (value_if c x)) (value_if b x)) (value_if a x)

-- ---- kinds

-- the kind of what a primitive answers, from the kinds of its result and of its arguments, where these are the kinds
-- that it is called with
abbrev pub called : Option Kind → Option (List Kind) → List Kind → Option Kind
called result args kinds = option_and_then (λ k. option_and_then (λ ks. if kinds_eq ks kinds then Some k else None) args) result

-- the kind over rows of these columns: that of the column or of the constant, or of what a primitive answers
abbrev pub kind_in : List Kind → Term → Option Kind
kind_in cols (col c) = slice_get cols c
kind_in cols (const a) = Some (kind_of a)
kind_in cols (one p a) = option_and_then (λ i. called (result1 p) (args1 p) (i ∷ [])) (kind_in cols a)
kind_in cols (two p a b) = option_and_then (λ i. option_and_then (λ j. called (result2 p) (args2 p) (i ∷ j ∷ [])) (kind_in cols b)) (kind_in cols a)
kind_in cols (three p a b c) =
    option_and_then (λ i. option_and_then (λ j. option_and_then (λ k. called (result3 p) (args3 p) (i ∷ j ∷ k ∷ [])) (kind_in cols c)) (kind_in cols b)) (kind_in cols a)

-- every column is below the width
abbrev pub has_columns : ℕ → Term → Bool
has_columns width (col c) = nat_lt c width
has_columns width (const a) = true
has_columns width (one p a) = has_columns width a
has_columns width (two p a b) = has_columns width a && has_columns width b
has_columns width (three p a b c) = has_columns width a && has_columns width b && has_columns width c

-- every primitive is at a place of its table
abbrev pub has_places : Term → Bool
has_places (col c) = true
has_places (const a) = true
has_places (one p a) = is_some (args1 p) && has_places a
has_places (two p a b) = is_some (args2 p) && has_places a && has_places b
has_places (three p a b c) = is_some (args3 p) && has_places a && has_places b && has_places c

-- the kind over rows of these columns, or the fault: a column past the width before a wrong kind
abbrev pub checked_kind : List Kind → Term → Result Kind ExprFault
checked_kind cols t = if has_columns (length cols) t then ok_or (kind_in cols t) fault.Kind else Err fault.Column

-- the expression has a kind over rows of these columns
abbrev pub is_typed : List Kind → Term → Bool
is_typed cols t = is_some (kind_in cols t)
