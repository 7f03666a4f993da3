use Rattle.std.proofs.Common.{◌≡◌, rules, subst, sym}
use Rattle.std.proofs.lemmas.Map.Views.{All-found}
use Rattle.record_text.specs.OrderLaws.{row_total}
use Rattle.weighted_set.specs.Changes.{IsChangeList}
use Rattle.weighted_set.specs.Held.{held_changes}
use Rattle.weighted_set.proofs.ChangeLists.{held_changes_lead}
use Rattle.weighted_set.proofs.adding.changes_in.Goals as goal

pub returns : goal.returns
returns c A B step =
    let running = c.args.running in
    let ordered = c.len-len.ensures.ordered in
    let all : c.loop-row.changes.items ≡ held_changes running.entries = search rules in
    subst (λ cs. IsChangeList cs A B) (sym all) (held_changes_lead A B running.entries ordered (All-found row_total running ordered) step)
