-- The weights so far are those of the items so far, and all of them together those of all items.
use Rattle.std.proofs.Common.{◌≡◌, ◌+◌, ◌++◌, [], ◌∷◌, take, max, ap, ap₂, sym, ◌∙◌, arith}
use Rattle.std.proofs.lemmas.List.{take_all}
use Rattle.std.proofs.lemmas.Result.{on_ok_weaker}
use Rattle.record_text.specs.KindLists.{kinds_of}
use Rattle.record_text.proofs.Lists.{map-front_more}
use Rattle.datasets.specs.Entries.{Row}
use Rattle.operators.specs.Operators.{applying, divisor, weight_of}
use Rattle.plan_model.specs.Evaluation.{giving}
use Rattle.weighted_set.specs.Changes.{entries_of}
use Rattle.op_linear.specs.Shares.{divided, given, giving_of, sum_at, weight_for}
use Rattle.op_linear.proofs.GivenWeights.{given-le, given-more, weight_of-more, weight_on-le}
use Rattle.op_linear.proofs.ListedShares.{shares-listed}
use Rattle.op_linear.proofs.TypedItems.{guard_at, row_at, weight_at}
use Rattle.op_linear.proofs.shares.list_shares.Goals as goal

pub add_item-requires-clause-guard : goal.add_item-requires-clause-guard
add_item-requires-clause-guard c = guard_at (kinds_of c.args.row.now) c.args.items.now c.loop-at.at c.at.result.now c.at.ensures c.requires.kinds

pub add_item-requires-clause-kinds : goal.add_item-requires-clause-kinds
add_item-requires-clause-kinds c = row_at (kinds_of c.args.row.now) c.args.items.now c.loop-at.at c.at.result.now c.at.ensures c.requires.kinds

pub add_item-requires-clause-room : goal.add_item-requires-clause-room
add_item-requires-clause-room c z =
    let before = giving (take c.loop-at.at c.args.items.now) in
    let part = given-le before c.args.row.now z in
    let each = c.loop-at.invariant.each z in
    let weight = weight_at (kinds_of c.args.row.now) c.args.items.now c.loop-at.at c.at.result.now c.at.ensures c.requires.limits in
    omega arith

pub overflow_add-total : goal.overflow_add-total
overflow_add-total c =
    let weight = weight_at (kinds_of c.args.row.now) c.args.items.now c.loop-at.at c.at.result.now c.at.ensures c.requires.limits in
    let added = weight_on-le (giving_of c.at.result.now) c.args.row.now in
    omega (arith, c.in_ok-total.ensures.weight)

pub loop-at-preserved : goal.loop-at-preserved
loop-at-preserved c =
    let items = c.args.items.now in
    let y = c.args.row.now in
    let item = c.at.result.now in
    let before = giving (take c.loop-at.at items) in
    let more : giving (take (c.loop-at.at + 1) items) ≡ before ++ giving_of item ∷ [] = map-front_more giving_of items c.loop-at.at item c.at.ensures in
    let weight = weight_at (kinds_of y) items c.loop-at.at item c.at.ensures c.requires.limits in
    let added = weight_on-le (giving_of item) y in
    record {
      each = λ z. c.in_ok-total.ensures.sums z ∙ ap (λ n. n + weight_for (giving_of item) y z) (c.loop-at.invariant.each z) ∙ sym (ap (λ gs. given gs y z) more ∙ given-more before (giving_of item) y z);
      above_zero = c.in_ok-total.ensures.above_zero c.loop-at.invariant.above_zero;
      whole = ap₂ (λ m n. m + n) c.loop-at.invariant.whole c.in_ok-total.ensures.weight ∙ sym (ap (λ gs. weight_of (applying gs y)) more ∙ weight_of-more before (giving_of item) y);
      small = omega (arith, c.in_ok-total.ensures.weight);
    }

pub returns : goal.returns
returns c =
    let items = c.args.items.now in
    let y = c.args.row.now in
    let over = c.args.over in
    let sums = c.loop-at.sums.entries in
    let all : take c.loop-at.at items ≡ items = take_all c.loop-at.at items (omega arith) in
    let whole : c.max.result ≡ divisor over (giving items) y = c.max.ensures ∙ ap (max over) (c.loop-at.invariant.whole ∙ ap (λ is. weight_of (applying (giving is) y)) all) in
    let each : (z : Row) → sum_at sums z ≡ given (giving items) y z = λ z. c.loop-at.invariant.each z ∙ ap (λ is. given (giving is) y z) all in
    let listed = shares-listed over (giving items) y sums c.push_shares.ensures.rising c.loop-at.invariant.above_zero each (omega arith) in
    on_ok_weaker c.push_shares.result
    (λ ok. ok ∙ ap (λ xs. entries_of xs ++ divided c.max.result sums) c.requires.empty ∙ ap (λ d. divided d sums) whole ∙ listed)
    c.push_shares.ensures.ok
