-- The arguments of a call that has a kind have the kinds that its primitive takes.
use Rattle.std.specs.Prelude.{◌≡◌, ℕ, Bool, true, false, is_some, if◌then◌else◌, List, [], ◌∷◌, Option, Some, None, option_and_then}
use Rattle.std.proofs.Common.{refl, sym, ap, ap₂, ◌∙◌, true≢false}
use Rattle.record_text.specs.declared.kinds.Kind.{Kind}
use Rattle.record_text.specs.KindLists.{kinds_eq}
use Rattle.record_text.proofs.Equality.{kinds_decided}
use Rattle.prim_table.specs.Tables.{args2, args3, result2, result3}
use Rattle.plan_model.specs.declared.expr.Expr.{Expr}
use Rattle.plan_model.specs.declared.expr.Expr.TheVariants.{Three, Two}
use Rattle.plan_model.specs.Values.{called, kind_in, term_of}
use Rattle.plan_model.proofs.Terms.{term_of-Three, term_of-Two}

args-called : (result : Option Kind) (args : Option (List Kind)) (kinds : List Kind) → is_some (called result args kinds) ≡ true → args ≡ Some kinds
args-called None args kinds typed = absurd (true≢false (sym typed))
args-called (Some k) None kinds typed = absurd (true≢false (sym typed))
args-called (Some k) (Some ks) kinds typed =
    ap Some ((kinds_decided ks kinds).0 (equal (kinds_eq ks kinds) typed))
  where
    equal : (b : Bool) → is_some (if b then Some k else None) ≡ true → b ≡ true
    equal true h = refl
    equal false h = absurd (true≢false (sym h))

pub args-Two : (cols : List Kind) (p : ℕ) (x y : Expr) (i j : Kind) → is_some (kind_in cols (term_of (Two p x y))) ≡ true →
    kind_in cols (term_of x) ≡ Some i → kind_in cols (term_of y) ≡ Some j → args2 p ≡ Some (i ∷ j ∷ [])
args-Two cols p x y i j typed first second =
    let whole = ap (kind_in cols) (term_of-Two p x y) ∙ ap₂ (λ u v. option_and_then (λ i. option_and_then (λ j. called (result2 p) (args2 p) (i ∷ j ∷ [])) v) u) first second in
    args-called (result2 p) (args2 p) (i ∷ j ∷ []) (sym (ap is_some whole) ∙ typed)

pub args-Three : (cols : List Kind) (p : ℕ) (x y z : Expr) (i j k : Kind) → is_some (kind_in cols (term_of (Three p x y z))) ≡ true →
    kind_in cols (term_of x) ≡ Some i → kind_in cols (term_of y) ≡ Some j → kind_in cols (term_of z) ≡ Some k → args3 p ≡ Some (i ∷ j ∷ k ∷ [])
args-Three cols p x y z i j k typed first second third =
    let last : Kind → Kind → Option Kind → Option Kind = λ i j w. option_and_then (λ k. called (result3 p) (args3 p) (i ∷ j ∷ k ∷ [])) w in
    let whole = ap (kind_in cols) (term_of-Three p x y z)
    ∙ ap₂ (λ u v. option_and_then (λ i. option_and_then (λ j. last i j (kind_in cols (term_of z))) v) u) first second
    ∙ ap (last i j) third in
    args-called (result3 p) (args3 p) (i ∷ j ∷ k ∷ []) (sym (ap is_some whole) ∙ typed)
