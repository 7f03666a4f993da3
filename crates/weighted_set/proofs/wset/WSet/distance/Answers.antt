use Rattle.std.proofs.Common.{ap, ap₂, sym, ◌∙◌}
use Rattle.std.specs.Ordering.{match_ordering}
use Rattle.ratios.specs.Range.{checked}
use Rattle.ratios.specs.Ratio.{ratio_add, zero_ratio}
use Rattle.weighted_set.proofs.WalkedDistance.{ahead, distance_from, distance_walked, gaps, taken_off, walk_goes_on}
use Rattle.weighted_set.proofs.WeightSets.{table_seen}
use Rattle.weighted_set.proofs.wset.WSet.distance.Goals as goal

pub loop-lower-init : goal.loop-lower-init
loop-lower-init c =
    let left = table_seen c.self.inside.table.entries c.iter-left.result c.args.self.now c.self.invariant c.self.view_is c.iter-left.ensures.rest in
    let right = table_seen c.other.inside.table.entries c.iter-right.result c.args.other.now c.other.invariant c.other.view_is c.iter-right.ensures.rest in
    distance_walked c.args.self.now c.args.other.now
    ∙ ap₂ (λ es fs. distance_from zero_ratio (gaps es fs)) (sym (taken_off _ c.next-first.result c.iter-left.result c.next-first.new.self c.next-first.ensures.steps ∙ left)) (sym (taken_off _ c.next-second.result c.iter-right.result c.next-second.new.self c.next-second.ensures.steps ∙ right))
    ∙ ap (λ s. distance_from s (gaps (ahead c.next-first.result c.next-first.new.self) (ahead c.next-second.result c.next-second.new.self))) (sym c.zero-sum.ensures)

pub loop-lower-preserved-in-Less : goal.loop-lower-preserved-in-Less
loop-lower-preserved-in-Less c =
    let l = c.loop-lower in
    let r = c.in_ok-sum.sum in
    let next = c.next-first-in-Less in
    let sum = c.in_ok-sum.ensures ∙ ap (λ q. checked (ratio_add l.sum q)) c.abs.ensures in
    l.invariant
    ∙ walk_goes_on l.sum l.first l.second l.left l.right c.in-Some.lower c.in-Some.ensures c.in_ok-sub.field-0 c.in_ok-sub.ensures r sum
    ∙ ap (λ o. distance_from r (match_ordering o (gaps l.left (ahead l.second l.right)) (gaps l.left l.right) (gaps (ahead l.first l.left) l.right))) c.in-Less.is
    ∙ ap (λ es. distance_from r (gaps es (ahead l.second l.right))) (sym (taken_off _ next.result l.left next.new.self next.ensures.steps))

pub loop-lower-preserved-in-Equal : goal.loop-lower-preserved-in-Equal
loop-lower-preserved-in-Equal c =
    let l = c.loop-lower in
    let r = c.in_ok-sum.sum in
    let first = c.next-first-in-Equal in
    let second = c.next-second-in-Equal in
    let sum = c.in_ok-sum.ensures ∙ ap (λ q. checked (ratio_add l.sum q)) c.abs.ensures in
    l.invariant
    ∙ walk_goes_on l.sum l.first l.second l.left l.right c.in-Some.lower c.in-Some.ensures c.in_ok-sub.field-0 c.in_ok-sub.ensures r sum
    ∙ ap (λ o. distance_from r (match_ordering o (gaps l.left (ahead l.second l.right)) (gaps l.left l.right) (gaps (ahead l.first l.left) l.right))) c.in-Equal.is
    ∙ ap₂ (λ es fs. distance_from r (gaps es fs)) (sym (taken_off _ first.result l.left first.new.self first.ensures.steps)) (sym (taken_off _ second.result l.right second.new.self second.ensures.steps))

pub loop-lower-preserved : goal.loop-lower-preserved
loop-lower-preserved c =
    let l = c.loop-lower in
    let r = c.in_ok-sum.sum in
    let next = c.next-second-in-Greater in
    let sum = c.in_ok-sum.ensures ∙ ap (λ q. checked (ratio_add l.sum q)) c.abs.ensures in
    l.invariant
    ∙ walk_goes_on l.sum l.first l.second l.left l.right c.in-Some.lower c.in-Some.ensures c.in_ok-sub.field-0 c.in_ok-sub.ensures r sum
    ∙ ap (λ o. distance_from r (match_ordering o (gaps l.left (ahead l.second l.right)) (gaps l.left l.right) (gaps (ahead l.first l.left) l.right))) c.in-Greater.is
    ∙ ap (λ fs. distance_from r (gaps (ahead l.first l.left) fs)) (sym (taken_off _ next.result l.right next.new.self next.ensures.steps))
