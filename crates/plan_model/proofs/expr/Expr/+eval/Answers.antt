use Rattle.std.proofs.Common.{◌≡◌, is_some, rules, true}
use Rattle.record_text.specs.KindLists.{kinds_of}
use Rattle.plan_model.specs.Values.{kind_in, term_of}
use Rattle.plan_model.specs.declared.expr.Expr.{the_lemmas}
use Rattle.plan_model.specs.declared.expr.Expr.TheVariants.{Three, Two}
use Rattle.plan_model.proofs.TypedCalls.{args-Three, args-Two}
use Rattle.plan_model.proofs.Columns.{below_width, kind_at}
use Rattle.plan_model.proofs.expr.Expr.+eval.Goals as goal

pub atom-requires : goal.atom-requires
atom-requires t c = below_width _ _ (search (rules, the_lemmas))

pub returns-in-Col-clause-kind : goal.returns-in-Col-clause-kind
returns-in-Col-clause-kind t c = search (rules, the_lemmas, kind_at)

pub apply2-requires : goal.apply2-requires
apply2-requires t c =
    let cols = kinds_of c.args.row.now in
    let typed : is_some (kind_in cols (term_of (Two c.in-Two.place c.get-in-Two.result.now c.get-in-Two-2.result.now))) ≡ true = search (rules, the_lemmas) in
    args-Two cols c.in-Two.place c.get-in-Two.result.now c.get-in-Two-2.result.now _ _ typed c.in_ok-a-in-Two.ensures.kind c.in_ok-b-in-Two.ensures.kind

pub apply3-requires : goal.apply3-requires
apply3-requires t c =
    let cols = kinds_of c.args.row.now in
    let typed : is_some (kind_in cols (term_of (Three c.in-Three.place c.get-in-Three.result.now c.get-in-Three-2.result.now c.get-in-Three-3.result.now))) ≡ true = search (rules, the_lemmas) in
    args-Three cols c.in-Three.place c.get-in-Three.result.now c.get-in-Three-2.result.now c.get-in-Three-3.result.now _ _ _ typed c.in_ok-a-in-Three.ensures.kind c.in_ok-b-in-Three.ensures.kind c.in_ok-c-in-Three.ensures.kind
