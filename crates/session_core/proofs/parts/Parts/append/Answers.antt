use Rattle.std.proofs.Common.{◌≡◌, ◌++◌, ◌+◌, ◌∷◌, ◌∙◌, [], Bool, IfOk, Result, ap, arith, if◌then◌else◌, is_ok, refl, subst, vec_len}
use Rattle.std.specs.declared.alloc.AllocFailed.{AllocFailed}
use Rattle.indexmap.specs.IndexSet.{insert_key}
use Rattle.record_text.specs.Names.{name_eq}
use Rattle.record_text.specs.declared.name.Name.{Name}
use Rattle.session_data.specs.declared.plans.Planned.{Planned}
use Rattle.session_core.specs.declared.parts.Parts.{Parts}
use Rattle.session_core.proofs.NewPlans.{AreSettled-grown, Grown, state_grown}
use Rattle.session_core.proofs.parts.Parts.append.Goals as goal

pub returns-clause-settled : goal.returns-clause-settled
returns-clause-settled c =
    let old = c.args.self.now in
    let added = c.args.planned in
    let new : Parts = record old { plan_names = c.insert.new.self; plans = c.push.new.self } in
    let items =
    c.push.ensures.items
    ∙ ap (λ (r : Result (Unit {0}) (AllocFailed Planned)). if is_ok r then old.plans.items ++ added ∷ [] else old.plans.items) c.unwrap-2.ensures in
    let keys = subst (λ (r : Result Bool (AllocFailed Name)). IfOk r (λ _. c.insert.new.self.keys ≡ insert_key name_eq old.plan_names.keys added.name)) c.unwrap.ensures c.insert.ensures.keys in
    let long = ap (λ (r : Result (Unit {0}) (AllocFailed Planned)). if is_ok r then vec_len old.plans + 1 else vec_len old.plans) c.unwrap-2.ensures in
    let grown : Grown old new added = record {
      curator = refl;
      sources = refl;
      plans = items;
      names = keys;
      names_room = omega (arith, c.requires.settled.kept.names_room, c.insert.ensures.spare, c.push.ensures.len, long);
      plans_room = omega (arith, c.requires.settled.kept.plans_room, c.push.ensures.capacity);
    } in
    AreSettled-grown old new added grown c.requires.settled c.requires.new c.requires.holds

pub returns-clause-state : goal.returns-clause-state
returns-clause-state c =
    let old = c.args.self.now in
    let added = c.args.planned in
    let new : Parts = record old { plan_names = c.insert.new.self; plans = c.push.new.self } in
    let items =
    c.push.ensures.items
    ∙ ap (λ (r : Result (Unit {0}) (AllocFailed Planned)). if is_ok r then old.plans.items ++ added ∷ [] else old.plans.items) c.unwrap-2.ensures in
    let keys = subst (λ (r : Result Bool (AllocFailed Name)). IfOk r (λ _. c.insert.new.self.keys ≡ insert_key name_eq old.plan_names.keys added.name)) c.unwrap.ensures c.insert.ensures.keys in
    let long = ap (λ (r : Result (Unit {0}) (AllocFailed Planned)). if is_ok r then vec_len old.plans + 1 else vec_len old.plans) c.unwrap-2.ensures in
    let grown : Grown old new added = record {
      curator = refl;
      sources = refl;
      plans = items;
      names = keys;
      names_room = omega (arith, c.requires.settled.kept.names_room, c.insert.ensures.spare, c.push.ensures.len, long);
      plans_room = omega (arith, c.requires.settled.kept.plans_room, c.push.ensures.capacity);
    } in
    state_grown old new added grown c.requires.settled c.requires.new c.requires.holds
