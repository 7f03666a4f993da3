use Rattle.std.proofs.Common.{◌≡◌, ℕ, ◌<◌, [], ◌∷◌, Result, Ok, Err, IfOk, IsTrue, arith}
use Rattle.std.proofs.lemmas.Result.{IfOk-weaker}
use Rattle.serde_json.specs.View.{view}
use Rattle.serde_json.specs.declared.value.Value.{Value}
use Rattle.record_text.specs.Held.{IsAtom}
use Rattle.record_text.specs.declared.atom.Atom.{Atom}
use Rattle.plan_model.specs.declared.expr.Expr.{Expr}
use Rattle.plan_model.specs.Limits.{node_count}
use Rattle.plan_model.specs.declared.expr.Expr.TheVariants.{Col, Const, One, Two, Three}
use Rattle.plan_model.specs.Values.{has_places, term_of}
use Rattle.expr_text.specs.Written.{ReadsAs, col_data, const_data, call_data}
use Rattle.expr_text.proofs.Parts.{IsPartOf, part_of-One, parts_of-Two, parts_of-Three}
use Rattle.expr_text.proofs.ReadsBack.{reads-Col, reads-Const, reads-One, reads-Two, reads-Three}
use Rattle.expr_text.proofs.write.+expr_to_json.Goals as goal

-- what the call needs of a part, at the value that the part is read as
needs : (t : ℕ) (e x y : Expr) → node_count (term_of e) ≡ t → x ≡ y → IsPartOf y e → (node_count (term_of x) < t) × IsTrue (has_places (term_of x))
needs t e x y measure is part = rw (← measure, is) part

pub expr_to_json-requires : goal.expr_to_json-requires
expr_to_json-requires t c =
    let part = part_of-One c.in-One.at c.in-One.a (rw c.in-One.is at c.requires) in
    needs t c.args.expr.now _ _ c.decreases c.get.ensures (rw c.in-One.is part)

pub expr_to_json-requires-in-Two : goal.expr_to_json-requires-in-Two
expr_to_json-requires-in-Two t c =
    let parts = parts_of-Two c.in-Two.at c.in-Two.a c.in-Two.b (rw c.in-Two.is at c.requires) in
    needs t c.args.expr.now _ _ c.decreases c.get-in-Two.ensures (rw c.in-Two.is parts.0)

pub expr_to_json-requires-in-Two-2 : goal.expr_to_json-requires-in-Two-2
expr_to_json-requires-in-Two-2 t c =
    let parts = parts_of-Two c.in-Two.at c.in-Two.a c.in-Two.b (rw c.in-Two.is at c.requires) in
    needs t c.args.expr.now _ _ c.decreases c.get-in-Two-2.ensures (rw c.in-Two.is parts.1)

pub expr_to_json-requires-in-Three : goal.expr_to_json-requires-in-Three
expr_to_json-requires-in-Three t c =
    let parts = parts_of-Three c.in-Three.at c.in-Three.a c.in-Three.b c.in-Three.c (rw c.in-Three.is at c.requires) in
    needs t c.args.expr.now _ _ c.decreases c.get-in-Three.ensures (rw c.in-Three.is parts.0)

pub expr_to_json-requires-in-Three-2 : goal.expr_to_json-requires-in-Three-2
expr_to_json-requires-in-Three-2 t c =
    let parts = parts_of-Three c.in-Three.at c.in-Three.a c.in-Three.b c.in-Three.c (rw c.in-Three.is at c.requires) in
    needs t c.args.expr.now _ _ c.decreases c.get-in-Three-2.ensures (rw c.in-Three.is parts.1)

pub expr_to_json-requires-in-Three-3 : goal.expr_to_json-requires-in-Three-3
expr_to_json-requires-in-Three-3 t c =
    let parts = parts_of-Three c.in-Three.at c.in-Three.a c.in-Three.b c.in-Three.c (rw c.in-Three.is at c.requires) in
    needs t c.args.expr.now _ _ c.decreases c.get-in-Three-3.ensures (rw c.in-Three.is parts.2)

pub returns-in-Col : goal.returns-in-Col
returns-in-Col t c =
    rw c.in-Col.is (IfOk-weaker c.col_of.result (λ v. view v ≡ col_data c.in-Col.column) (λ v. ReadsAs (Col c.in-Col.column) (view v))
    (λ v is. rw is (reads-Col c.in-Col.column (omega arith))) c.col_of.ensures)

reads_const : {E : Type 0} (r : Result Value E) (atom : Atom) → IfOk r (λ v. view v ≡ const_data atom) → IfOk r (λ v. IsAtom atom) → IfOk r (λ v. ReadsAs (Const atom) (view v))
reads_const (Ok v) atom is held = rw is (reads-Const atom held)
reads_const (Err e) atom is held = tt

pub returns-in-Const : goal.returns-in-Const
returns-in-Const t c = rw c.in-Const.is (reads_const c.const_of.result c.in-Const.atom c.const_of.ensures.value c.const_of.ensures.held)

pub returns-in_ok-a-in-One : goal.returns-in_ok-a-in-One
returns-in_ok-a-in-One t c =
    rw c.in-One.is (IfOk-weaker c.call1.result (λ v. view v ≡ call_data c.name1.result.now (view c.in_ok-a-in-One.a ∷ [])) (λ v. ReadsAs (One c.in-One.at c.in-One.a) (view v))
    (λ v is. rw is (reads-One _ _ _ _ c.name1.ensures (rw c.get.ensures at c.in_ok-a-in-One.ensures))) c.call1.ensures)

pub returns-in_ok-b-in-Two : goal.returns-in_ok-b-in-Two
returns-in_ok-b-in-Two t c =
    rw c.in-Two.is (IfOk-weaker c.call2.result (λ v. view v ≡ call_data c.name2.result.now (view c.in_ok-a-in-Two.a ∷ view c.in_ok-b-in-Two.b ∷ []))
    (λ v. ReadsAs (Two c.in-Two.at c.in-Two.a c.in-Two.b) (view v))
    (λ v is. rw is (reads-Two _ _ _ _ _ _ c.name2.ensures (rw c.get-in-Two.ensures at c.in_ok-a-in-Two.ensures)
    (rw c.get-in-Two-2.ensures at c.in_ok-b-in-Two.ensures))) c.call2.ensures)

pub returns-in_ok-c-in-Three : goal.returns-in_ok-c-in-Three
returns-in_ok-c-in-Three t c =
    rw c.in-Three.is (IfOk-weaker c.call3.result
    (λ v. view v ≡ call_data c.name3.result.now (view c.in_ok-a-in-Three.a ∷ view c.in_ok-b-in-Three.b ∷ view c.in_ok-c-in-Three.c ∷ []))
    (λ v. ReadsAs (Three c.in-Three.at c.in-Three.a c.in-Three.b c.in-Three.c) (view v))
    (λ v is. rw is (reads-Three _ _ _ _ _ _ _ _ c.name3.ensures (rw c.get-in-Three.ensures at c.in_ok-a-in-Three.ensures)
    (rw c.get-in-Three-2.ensures at c.in_ok-b-in-Three.ensures) (rw c.get-in-Three-3.ensures at c.in_ok-c-in-Three.ensures))) c.call3.ensures)
