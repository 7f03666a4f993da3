-- The kind of the value of an expression, and the kinds of the rows that expressions give.
use Rattle.std.specs.Prelude.{◌≡◌, ℕ, if◌then◌else◌, List, [], ◌∷◌, pos, slice_get, Option, Some, None, option_map, option_and_then}
use Rattle.std.specs.Option.{unwrap_or}
use Rattle.std.proofs.Common.{refl, sym, ap, ap₂, ◌∙◌}
use Rattle.std.proofs.lemmas.Option.{slice_get-map}
use Rattle.record_text.specs.declared.atom.Atom.{Atom}
use Rattle.record_text.specs.declared.atom.Atom.TheVariants as atom
use Rattle.record_text.specs.declared.kinds.Kind.{Kind}
use Rattle.record_text.specs.declared.kinds.Kind.TheVariants.{Int, Text}
use Rattle.record_text.specs.KindLists.{kind_of, kinds_eq, kinds_of}
use Rattle.datasets.specs.Entries.{Row}
use Rattle.prim_table.specs.Primitives.{Functions, Primitive, answer, binary, given, ternary, unary}
use Rattle.prim_table.specs.Tables.{answer_at, args1, args2, args3, args_at, prim1, prim2, prim3, result1, result2, result3, result_at}
use Rattle.plan_model.specs.declared.expr.Expr.{Expr}
use Rattle.plan_model.specs.Evaluation.{row_of, value}
use Rattle.plan_model.specs.Types.{kind_over, kinds_over}
use Rattle.plan_model.specs.Values.{Term, col, const, one, two, three, called, kind_in, term_of, value_if}

-- ---- what a primitive answers, where it answers, has the kind of its result

kind-given : (args : List Kind) (result : Kind) (f : Functions args result) (atoms : List Atom) →
    option_map kind_of (given args result f atoms) ≡ (if kinds_eq args (kinds_of atoms) then Some result else None)
kind-given [] Int f [] = refl
kind-given [] Text f [] = refl
kind-given [] result f (a ∷ atoms) = refl
kind-given (k ∷ args) result f [] = refl
kind-given (Int ∷ args) result f (atom.Int a ∷ atoms) = kind-given args result (f a) atoms
kind-given (Int ∷ args) result f (atom.Text a ∷ atoms) = refl
kind-given (Text ∷ args) result f (atom.Int a ∷ atoms) = refl
kind-given (Text ∷ args) result f (atom.Text a ∷ atoms) = kind-given args result (f a) atoms

kind-answer_at : (table : List Primitive) (at : ℕ) (atoms : List Atom) → option_map kind_of (answer_at table at atoms) ≡ called (result_at table at) (args_at table at) (kinds_of atoms)
kind-answer_at table at atoms =
    elim (slice_get table at) as (λ p. option_map kind_of (option_and_then (λ p. answer p atoms) p) ≡ called (option_map (λ p. p.result) p) (option_map (λ p. p.args) p) (kinds_of atoms)) [
      | None ↦ refl
      | Some p ↦ kind-given p.args p.result p.function atoms
    ]

kind-prim1 : (p : ℕ) (a : Option Atom) → option_map kind_of (option_and_then (prim1 p) a) ≡ option_and_then (λ i. called (result1 p) (args1 p) (i ∷ [])) (option_map kind_of a)
kind-prim1 p None = refl
kind-prim1 p (Some a) = kind-answer_at unary p (a ∷ [])

kind-prim2 : (p : ℕ) (a b : Option Atom) →
    option_map kind_of (option_and_then (λ u. option_and_then (prim2 p u) b) a)
    ≡ option_and_then (λ i. option_and_then (λ j. called (result2 p) (args2 p) (i ∷ j ∷ [])) (option_map kind_of b)) (option_map kind_of a)
kind-prim2 p None b = refl
kind-prim2 p (Some a) None = refl
kind-prim2 p (Some a) (Some b) = kind-answer_at binary p (a ∷ b ∷ [])

kind-prim3 : (p : ℕ) (a b c : Option Atom) →
    option_map kind_of (option_and_then (λ u. option_and_then (λ v. option_and_then (prim3 p u v) c) b) a)
    ≡ option_and_then (λ i. option_and_then (λ j. option_and_then (λ k. called (result3 p) (args3 p) (i ∷ j ∷ k ∷ [])) (option_map kind_of c)) (option_map kind_of b)) (option_map kind_of a)
kind-prim3 p None b c = refl
kind-prim3 p (Some a) None c = refl
kind-prim3 p (Some a) (Some b) None = refl
kind-prim3 p (Some a) (Some b) (Some c) = kind-answer_at ternary p (a ∷ b ∷ c ∷ [])

-- ---- values

-- an expression has a value on a row just where it has a kind over the row's columns, and this is the value's kind
pub kind-value_if : (t : Term) (x : Row) → option_map kind_of (value_if t x) ≡ kind_in (kinds_of x) t
kind-value_if (col c) x = sym (slice_get-map kind_of x c)
kind-value_if (const a) x = refl
kind-value_if (one p a) x = kind-prim1 p (value_if a x) ∙ ap (option_and_then (λ i. called (result1 p) (args1 p) (i ∷ []))) (kind-value_if a x)
kind-value_if (two p a b) x =
    kind-prim2 p (value_if a x) (value_if b x)
    ∙ ap₂ (λ u v. option_and_then (λ i. option_and_then (λ j. called (result2 p) (args2 p) (i ∷ j ∷ [])) v) u) (kind-value_if a x) (kind-value_if b x)
kind-value_if (three p a b c) x =
    let kinds : Option Kind → Option Kind → Option Kind → Option Kind =
    λ u v w. option_and_then (λ i. option_and_then (λ j. option_and_then (λ k. called (result3 p) (args3 p) (i ∷ j ∷ k ∷ [])) w) v) u in
    kind-prim3 p (value_if a x) (value_if b x) (value_if c x)
    ∙ ap₂ (λ u v. kinds u v (option_map kind_of (value_if c x))) (kind-value_if a x) (kind-value_if b x)
    ∙ ap (kinds (kind_in (kinds_of x) a) (kind_in (kinds_of x) b)) (kind-value_if c x)

kind-unwrap_or : (o : Option Atom) → kind_of (unwrap_or o (atom.Int (pos 0))) ≡ unwrap_or (option_map kind_of o) Int
kind-unwrap_or None = refl
kind-unwrap_or (Some a) = refl

kind-value : (e : Expr) (x : Row) → kind_of (value e x) ≡ kind_over (kinds_of x) e
kind-value e x = kind-unwrap_or (value_if (term_of e) x) ∙ ap (λ o. unwrap_or o Int) (kind-value_if (term_of e) x)

pub kinds-row_of : (es : List Expr) (x : Row) → kinds_of (row_of es x) ≡ kinds_over (kinds_of x) es
kinds-row_of [] x = refl
kinds-row_of (e ∷ es) x = ap₂ (λ k ks. k ∷ ks) (kind-value e x) (kinds-row_of es x)
