-- Parts whose sources are charged.
use Rattle.std.proofs.Common.{◌≡◌, List, [], ◌∷◌, refl, sym, ap, subst, ◌∙◌}
use Rattle.std.specs.Prelude.{All}
use Rattle.std.proofs.lemmas.List.Elements.{All-cons, All-head, All-nil, All-tail}
use Rattle.budget_book.specs.Asks.{charged}
use Rattle.budget_book.specs.Budgets.{IsKept}
use Rattle.budget_book.specs.declared.ask.Ask.{Ask}
use Rattle.budget_book.specs.declared.budget.Budget.{Budget}
use Rattle.plan_model.specs.Evaluation.{Family}
use Rattle.plan_model.specs.declared.source_types.SourceType.{SourceType}
use Rattle.request_machine.specs.Charges.{after_charges, book_of, with_book}
use Rattle.request_machine.specs.Sound.{IsSoundSource}
use Rattle.request_machine.specs.State.{SourceState, family_of, type_of, types_of}
use Rattle.session_data.specs.Held.{HeldSources}
use Rattle.session_data.specs.Planned.{IsSettled}
use Rattle.session_core.specs.Parts.{AreSettled, state_of}
use Rattle.session_core.specs.declared.parts.Parts.{Parts}
use Rattle.session_core.proofs.Added.{held_is}
use Rattle.session_core.proofs.Kept.{AllHeld-settled, AllSound-held, Sound-turned}

types-charged : (sources : List SourceState) (book : List Budget) → types_of (with_book sources book) ≡ types_of sources
types-charged [] book = refl
types-charged (source ∷ sources) [] = refl
types-charged (source ∷ sources) (b ∷ book) = ap (λ (types : List SourceType). type_of source ∷ types) (types-charged sources book)

rows-charged : (sources : List SourceState) (book : List Budget) → family_of (with_book sources book) ≡ family_of sources
rows-charged [] book = refl
rows-charged (source ∷ sources) [] = refl
rows-charged (source ∷ sources) (b ∷ book) = ap (λ (F : Family). source.rows ∷ F) (rows-charged sources book)

sound-charged : (sources : List SourceState) (book : List Budget) → All IsSoundSource sources → All IsKept (book_of (with_book sources book)) → All IsSoundSource (with_book sources book)
sound-charged [] book sound kept = All-nil IsSoundSource
sound-charged (source ∷ sources) [] sound kept = sound
sound-charged (source ∷ sources) (b ∷ book) sound kept =
    let here = All-head IsSoundSource source sources sound in
    let within = All-head IsKept b (book_of (with_book sources book)) kept in
    All-cons IsSoundSource (record source { total = b.total; spent = b.spent }) (with_book sources book)
    (record { typed = here.typed; in_range = here.in_range; spent_within = within.spent; total_within = within.total })
    (sound-charged sources book (All-tail IsSoundSource source sources sound) (All-tail IsKept b (book_of (with_book sources book)) kept))

-- parts whose sources are charged within their budgets are settled
pub AreSettled-charged : (old : Parts) (s : HeldSources) (asks : List Ask) → AreSettled old → s.committed ≡ after_charges old.sources.committed asks
    → s.pending ≡ after_charges old.sources.pending asks → All IsKept (book_of s.committed) → AreSettled (record old { sources = s })
AreSettled-charged old s asks settled committed pending kept =
    let sources = old.sources.committed in
    let book = charged (book_of sources) asks in
    let new = after_charges sources asks in
    let there : HeldSources = record { committed = new; pending = new } in
    let same : s ≡ there = held_is s new new committed (pending ∙ ap (λ (ss : List SourceState). after_charges ss asks) settled.none_pending) in
    let types = types-charged sources book in
    let rows = rows-charged sources book in
    let sound = sound-charged sources book settled.kept.sound.all_sound (subst (λ (ss : List SourceState). All IsKept (book_of ss)) committed kept) in
    let plans : All (IsSettled (types_of new) (family_of new)) old.plans.items =
    subst (λ (ts : List SourceType). All (IsSettled ts (family_of new)) old.plans.items) (sym types)
    (subst (λ (F : Family). All (IsSettled (types_of sources) F) old.plans.items) (sym rows) settled.plans) in
    let whole : AreSettled (record old { sources = there }) = record {
      kept = record {
        sound = Sound-turned (state_of old) new settled.kept.sound types sound (AllSound-held new old.plans.items (AllHeld-settled (types_of new) (family_of new) old.plans.items plans));
        names = settled.kept.names;
        names_room = settled.kept.names_room;
        plans_room = settled.kept.plans_room;
      };
      plans = plans;
      none_pending = refl;
    } in
    subst (λ (u : HeldSources). AreSettled (record old { sources = u })) (sym same) whole
