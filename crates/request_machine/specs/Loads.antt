-- Weights that are added to a source from a file.
use Rattle.std.specs.Prelude.{ℕ, Bool, List, Option, None, Some}
use Rattle.csv_changes.specs.Changes.{changes_of}
use Rattle.messages.specs.declared.refusal.Refusal.TheVariants as refusal
use Rattle.messages.specs.declared.thing.Thing.TheVariants as thing
use Rattle.messages.specs.declared.reply.Reply.{Reply}
use Rattle.messages.specs.declared.reply.Reply.TheVariants as reply
use Rattle.request_machine.specs.Fetches.{Content, Failed, Fetched, Long, Missing, Nothing}
use Rattle.request_machine.specs.Named.{first_named, index_named, source_name}
use Rattle.request_machine.specs.State.{SourceState, State}
use Rattle.request_machine.specs.Updates.{updated_by}

-- the text of a file is added as that of an update is; where there is none, the refusal says why
abbrev pub loaded_by : Fetched → State → ℕ → SourceState → Bool → State × Reply
loaded_by (Content csv) state at source header = updated_by state at source (changes_of csv source.kinds header)
loaded_by Long state at source header = (state, reply.Refused refusal.FileLong)
loaded_by Missing state at source header = (state, reply.Refused refusal.FileMissing)
loaded_by Failed state at source header = (state, reply.Refused refusal.File)
loaded_by Nothing state at source header = (state, reply.Refused refusal.File)

abbrev pub loaded_of : Option SourceState → State → List ℕ → Bool → Fetched → State × Reply
loaded_of None state name header fetched = (state, reply.Refused (refusal.Unknown thing.Source name))
loaded_of (Some source) state name header fetched =
    loaded_by fetched state (index_named source_name name state.sources) source header

-- the state and the reply after a file is added to the source of a name
unfoldable pub loaded : State → List ℕ → Bool → Fetched → State × Reply
loaded state name header fetched = loaded_of (first_named source_name name state.sources) state name header fetched
