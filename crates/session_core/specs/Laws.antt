-- What the reply to an update or a load shows of its work.
use Rattle.std.specs.Prelude.{◌≡◌, ⊤, ℕ, Bool, List, Option, Some, Ok}
use Rattle.messages.specs.declared.refusal.Refusal.TheVariants as refusal
use Rattle.messages.specs.declared.reply.Reply.{Reply}
use Rattle.messages.specs.declared.reply.Reply.TheVariants as reply
use Rattle.messages.specs.declared.request.Request.TheVariants as request
use Rattle.request_machine.specs.Fetches.{Fetched}
use Rattle.request_machine.specs.Loads.{loaded}
use Rattle.request_machine.specs.State.{State, family_of, types_of}
use Rattle.request_machine.specs.Updates.{updated}
use Rattle.session_data.specs.Work.{follow_steps}
use Rattle.session_core.specs.Work.{line_work}

-- no work after a refusal, unless for a plan that doesn't fit; after another reply that of following to the new sources
abbrev pub IsWorkAfter : State → State → Reply → Option ℕ → Type 0
IsWorkAfter state new (reply.Refused (refusal.Range plan step)) work = ⊤
IsWorkAfter state new (reply.Refused why) work = work ≡ Some 0
IsWorkAfter state new answer work =
    work ≡ Some (follow_steps state.plans (types_of state.sources) (family_of state.sources) (family_of new.sources))

abbrev pub UpdatesShowWork : Type 0
UpdatesShowWork =
    (state : State) (name csv : List ℕ) (header : Bool) (fetched : Fetched)
    → let outcome = updated state name csv header in
    IsWorkAfter state outcome.0 outcome.1 (line_work state (Ok (request.Update name csv header)) fetched)

abbrev pub LoadsShowWork : Type 0
LoadsShowWork =
    (state : State) (name path : List ℕ) (header : Bool) (fetched : Fetched)
    → let outcome = loaded state name header fetched in
    IsWorkAfter state outcome.0 outcome.1 (line_work state (Ok (request.Load name path header)) fetched)
