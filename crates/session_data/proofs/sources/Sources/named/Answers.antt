use Rattle.std.proofs.Common.{◌∙◌, ◌++◌, ◌∷◌, [], List, ap, map, sym, take, ℕ}
use Rattle.std.specs.Prelude.{slice_index_or}
use Rattle.std.proofs.lemmas.List.{map-append, take_more}
use Rattle.budget_book.specs.declared.ask.Ask.{Ask}
use Rattle.request_machine.specs.Charges.{by_name}
use Rattle.request_machine.specs.Named.{source_name}
use Rattle.session_data.proofs.BookLemmas.{AreAsks-here, name_here}
use Rattle.session_data.proofs.sources.Sources.named.Goals as goal

pub source_type-requires : goal.source_type-requires
source_type-requires c = AreAsks-here 0 _ c.args.asks.now c.loop-ask.ask-index (record { source = 0; amount = 0 }) c.loop-ask-test.true c.requires

pub loop-ask-preserved : goal.loop-ask-preserved
loop-ask-preserved c =
    let sources = c.args.self.now.committed in
    let asks = c.args.asks.now in
    let at = c.loop-ask.ask-index in
    let none : Ask = record { source = 0; amount = 0 } in
    let ask : Ask = slice_index_or asks at none in
    let named = name_here sources ask.source c.source_type.result c.source_type.ensures in
    c.in_ok-push.ensures.items
    ∙ ap (λ (used : List (List ℕ × ℕ)). used ++ (c.source_type.result.name, ask.amount) ∷ []) c.loop-ask.invariant
    ∙ ap (λ (name : List ℕ). by_name sources (take at asks) ++ (name, ask.amount) ∷ []) (sym named)
    ∙ sym (ap (by_name sources) (take_more asks at none c.loop-ask-test.true)
    ∙ map-append (λ (a : Ask). (slice_index_or (map source_name sources) a.source [], a.amount)) (take at asks) (ask ∷ []))
