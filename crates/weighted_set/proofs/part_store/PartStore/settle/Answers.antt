use Rattle.std.proofs.Common.{◌≡◌, ◌∙◌, [], subst, arith}
use Rattle.std.proofs.lemmas.Grind.{common_steps}
use Rattle.weighted_set.specs.Parts.{IsSettledPart, part_at}
use Rattle.weighted_set.specs.Tables.{AllBut}
use Rattle.weighted_set.proofs.PartStores.{nothing_pending}
use Rattle.weighted_set.proofs.Sets.{committed_is_viewed, pending_is_viewed}
use Rattle.weighted_set.proofs.TouchedRows.{all_but_less}
use Rattle.weighted_set.proofs.part_store.PartStore.settle.Goals as goal

pub loop-key-preserved : goal.loop-key-preserved
loop-key-preserved c =
    let old = c.loop-key.self-inside.parts.entries in
    let before = subst (λ ts. AllBut IsSettledPart ts old) c.in-Some.ensures.items c.loop-key.invariant.settled in
    record {
      settled = all_but_less IsSettledPart c.pop.new.self.items c.in-Some.key old c.settle_key.new.parts.entries c.settle_key.ensures.others before c.settle_key.ensures.settled;
      viewed = λ k. c.settle_key.ensures.viewed k ∙ c.loop-key.invariant.viewed k;
    }

pub returns-clause-committed : goal.returns-clause-committed
returns-clause-committed c k =
    let es = c.loop-key.self-inside.parts.entries in
    let none : c.loop-key.self-inside.touched.items ≡ [] = grind (arith, common_steps) in
    let same = nothing_pending es (subst (λ ts. AllBut IsSettledPart ts es) none c.loop-key.invariant.settled) k in
    committed_is_viewed c.args.view (part_at es k) same ∙ c.loop-key.invariant.viewed k

pub returns-clause-pending : goal.returns-clause-pending
returns-clause-pending c k =
    let es = c.loop-key.self-inside.parts.entries in
    let none : c.loop-key.self-inside.touched.items ≡ [] = grind (arith, common_steps) in
    let same = nothing_pending es (subst (λ ts. AllBut IsSettledPart ts es) none c.loop-key.invariant.settled) k in
    pending_is_viewed c.args.view (part_at es k) same ∙ c.loop-key.invariant.viewed k
