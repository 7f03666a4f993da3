-- The output at the key, from the weight that is answered for its two weights.
use Rattle.std.proofs.Common.{◌++◌, [], ◌∷◌, ap, refl, sym, ◌∙◌}
use Rattle.weighted_set.specs.Changes.{entries_of}
use Rattle.weighted_set.specs.Parts.{listed}
use Rattle.op_setwise.specs.Setwise.{SetParts}
use Rattle.op_setwise.proofs.SetOutputs.{output-fits, output-misfits, output-none, output-some, weight-answered, weight-unanswered}
use Rattle.op_setwise.proofs.set.SetOpPartOp.part_out.Goals as goal

pub returns-in_default-clause-range : goal.returns-in_default-clause-range
returns-in_default-clause-range g c e =
    let op = c.args.self.now in
    let k = c.args.key.now in
    let A = listed c.args.left.now in
    let B = listed c.args.right.now in
    output-misfits op k A B c.requires.takes _ refl
    (weight-unanswered op k A B c.self.inside.kind c.only_weight.result c.only_weight-2.result (ap (λ (op : SetParts). op.kind) c.self.view_is) (c.only_weight.ensures k c.requires.takes.0) (c.only_weight-2.ensures k c.requires.takes.1) c.in_default.ensures)

pub returns-in_ok-push_row-clause-ok : goal.returns-in_ok-push_row-clause-ok
returns-in_ok-push_row-clause-ok g c =
    let op = c.args.self.now in
    let k = c.args.key.now in
    let A = listed c.args.left.now in
    let B = listed c.args.right.now in
    let is = weight-answered op k A B c.self.inside.kind c.only_weight.result c.only_weight-2.result c.in-Some.weight (ap (λ (op : SetParts). op.kind) c.self.view_is) (c.only_weight.ensures k c.requires.takes.0) (c.only_weight-2.ensures k c.requires.takes.1) c.in-Some.ensures in
    c.in_ok-push_row.ensures.ok
    ∙ ap (λ xs. entries_of xs ++ (k, c.in-Some.weight) ∷ []) c.clear.ensures.items
    ∙ sym (output-some op k A B c.requires.takes c.in-Some.weight is (sym c.is_zero.ensures.value ∙ c.if-not-is_zero.true))

pub returns-in_ok-push_row-clause-fits : goal.returns-in_ok-push_row-clause-fits
returns-in_ok-push_row-clause-fits g c =
    let op = c.args.self.now in
    let k = c.args.key.now in
    let A = listed c.args.left.now in
    let B = listed c.args.right.now in
    let is = weight-answered op k A B c.self.inside.kind c.only_weight.result c.only_weight-2.result c.in-Some.weight (ap (λ (op : SetParts). op.kind) c.self.view_is) (c.only_weight.ensures k c.requires.takes.0) (c.only_weight-2.ensures k c.requires.takes.1) c.in-Some.ensures in
    output-fits op k A B c.requires.takes c.in-Some.weight is c.is_zero.ensures.in_range

pub returns-else-not-is_zero-clause-ok : goal.returns-else-not-is_zero-clause-ok
returns-else-not-is_zero-clause-ok g c =
    let op = c.args.self.now in
    let k = c.args.key.now in
    let A = listed c.args.left.now in
    let B = listed c.args.right.now in
    let is = weight-answered op k A B c.self.inside.kind c.only_weight.result c.only_weight-2.result c.in-Some.weight (ap (λ (op : SetParts). op.kind) c.self.view_is) (c.only_weight.ensures k c.requires.takes.0) (c.only_weight-2.ensures k c.requires.takes.1) c.in-Some.ensures in
    ap entries_of c.clear.ensures.items ∙ sym (output-none op k A B c.requires.takes c.in-Some.weight is (sym c.is_zero.ensures.value ∙ c.if-not-is_zero.false))

pub returns-else-not-is_zero-clause-fits : goal.returns-else-not-is_zero-clause-fits
returns-else-not-is_zero-clause-fits g c =
    let op = c.args.self.now in
    let k = c.args.key.now in
    let A = listed c.args.left.now in
    let B = listed c.args.right.now in
    let is = weight-answered op k A B c.self.inside.kind c.only_weight.result c.only_weight-2.result c.in-Some.weight (ap (λ (op : SetParts). op.kind) c.self.view_is) (c.only_weight.ensures k c.requires.takes.0) (c.only_weight-2.ensures k c.requires.takes.1) c.in-Some.ensures in
    output-fits op k A B c.requires.takes c.in-Some.weight is c.is_zero.ensures.in_range
