use Rattle.std.proofs.Common.{ap, arith, refl, subst, ◌∙◌, ◌<◌}
use Rattle.std.specs.List.{remove}
use lib.ListN.{length-map}
use Rattle.session_data.specs.Planned.{plan_state}
use Rattle.session_core.specs.declared.parts.Parts.{Parts}
use Rattle.session_core.proofs.Dropped.{AreSettled-dropped, state_is}
use Rattle.session_core.proofs.parts.Parts.remove.Goals as goal

pub returns-clause-settled : goal.returns-clause-settled
returns-clause-settled c =
    let names = c.shift_remove_index-name in
    let plans = c.remove-plan in
    let old = c.args.self.now in
    let new : Parts = record old { plan_names = names.new.self; plans = plans.new.self } in
    AreSettled-dropped old new c.requires.settled refl refl c.args.at plans.ensures.items
    (subst (λ n. c.args.at < n) (length-map old.plans.items plan_state) c.requires.place)
    (names.ensures.keys ∙ ap (λ ks. remove ks c.args.at) c.reserve.ensures.keys)
    (omega (arith, c.in_ok-reserve.ensures.ok, names.ensures.room.0, plans.ensures.len, c.len.ensures))
    (omega (arith, plans.ensures.capacity, c.requires.settled.kept.plans_room))

pub returns-clause-state : goal.returns-clause-state
returns-clause-state c =
    let names = c.shift_remove_index-name in
    let plans = c.remove-plan in
    let old = c.args.self.now in
    let new : Parts = record old { plan_names = names.new.self; plans = plans.new.self } in
    state_is old new c.requires.settled refl refl c.args.at plans.ensures.items
