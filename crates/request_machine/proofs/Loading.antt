-- Files that are asked for, case by case.
use Rattle.std.proofs.Common.{◌≡◌, ◌<◌, ℕ, List, refl, ap, subst, sym, Some, None, Ok, Err, Bool, get_or, Option, Result, arith, inl, inr, length, length-append}
use Rattle.std.specs.Prelude.{ℤ, IfSome, IsSomeAnd}
use Rattle.std.proofs.lemmas.Bool.{cases_lt}
use Rattle.io_edge.specs.Shelf.{Files, FetchOutcome, file_at}
use Rattle.io_edge.specs.declared.shelf_fault.ShelfFault.TheVariants as fault
use Rattle.messages.specs.declared.refusal.Refusal.{Refusal}
use Rattle.messages.specs.declared.refusal.Refusal.TheVariants as refusal
use Rattle.messages.specs.declared.request.Request.{Request}
use Rattle.messages.specs.declared.request.Request.TheVariants as request
use Rattle.messages.specs.declared.thing.Thing.TheVariants as thing
use Rattle.messages.specs.declared.reply.Reply.TheVariants as reply
use Rattle.request_machine.specs.Fetches.{Content, Failed, Fetched, Long, MayFetch, Missing, Nothing}
use Rattle.request_machine.specs.Limits.{max_file}
use Rattle.request_machine.specs.Loads.{loaded, loaded_by}
use Rattle.request_machine.specs.Machine.{answered}
use Rattle.request_machine.specs.Named.{place_named, source_name}
use Rattle.request_machine.specs.Stages.{MayTake}
use Rattle.request_machine.specs.State.{SourceState, State}
use Rattle.request_machine.proofs.Named.{index-is, named_here, named_nowhere}

-- ---- what is fetched

-- what may be given for what is asked, and is no fault
pub record FetchesSurely (files : Option Files) (asked : Result Request Refusal) : Type 0 where
  pub fetched : Fetched
  pub may_fetch : MayFetch files asked fetched
  pub sure : ¬ (fetched ≡ Failed)

sure_of_file : (found : Option (List ℕ)) (files : Files) (name path : List ℕ) (header : Bool) → file_at files path ≡ found
    → FetchesSurely (Some files) (Ok (request.Load name path header))
sure_of_file None files name path header e = record { fetched = Missing; may_fetch = e; sure = λ f. cc }
sure_of_file (Some bytes) files name path header e =
    elim (cases_lt max_file (length bytes)) [
      | inl long ↦ record { fetched = Long; may_fetch = subst (λ (o : Option (List ℕ)). IsSomeAnd o (λ bytes. max_file < length bytes)) (sym e) long; sure = λ f. cc }
      | inr fits ↦ record { fetched = Content bytes; may_fetch = (fits, e); sure = λ f. cc }
    ]

sure_of_path : (files : Option Files) (name path : List ℕ) (header : Bool) → FetchesSurely files (Ok (request.Load name path header))
sure_of_path None name path header = record { fetched = Missing; may_fetch = tt; sure = λ f. cc }
sure_of_path (Some files) name path header = sure_of_file (file_at files path) files name path header refl

-- whatever is asked, there is such a thing
pub surely : (files : Option Files) (asked : Result Request Refusal) → FetchesSurely files asked
surely files (Ok (request.Load name path header)) = sure_of_path files name path header
surely files asked = record { fetched = Nothing; may_fetch = refl; sure = λ f. cc }

-- a file of which one byte more than is asked for was given is longer
pub Fetches-long : (files : Option Files) (path into : List ℕ) (max : ℕ) → FetchOutcome files path max (Err fault.Long) into
    → IfSome files (λ known. IsSomeAnd (file_at known path) (λ bytes. max < length bytes))
Fetches-long None path into max h = tt
Fetches-long (Some known) path into max h =
    subst (λ (o : Option (List ℕ)). IsSomeAnd o (λ bytes. max < length bytes)) (sym h.1.1) (omega (arith, h.0, length-append into h.1.0))

-- ---- what it comes to

-- what a request may take of the noise doesn't depend on what was fetched for it
pub MayTake-any : (state : State) (asked : Result Request Refusal) (fetched other : Fetched) (given : List (ℕ × ℤ))
    → MayTake (answered state asked fetched) given → MayTake (answered state asked other) given
MayTake-any state (Ok (request.Load name path header)) fetched other given h = h
MayTake-any state asked fetched other given h = h

pub loaded_unknown : (state : State) (name : List ℕ) (header : Bool) (fetched : Fetched) → place_named source_name name state.sources ≡ None
    → loaded state name header fetched ≡ (state, reply.Refused (refusal.Unknown thing.Source name))
unfolding loaded
loaded_unknown state name header fetched none = rw (named_nowhere source_name name state.sources none) refl

pub loaded_known : (state : State) (name : List ℕ) (header : Bool) (fetched : Fetched) (i : ℕ) (x : SourceState)
    → place_named source_name name state.sources ≡ Some i → x ≡ get_or state.sources i x
    → loaded state name header fetched ≡ loaded_by fetched state i x header
unfolding loaded
loaded_known state name header fetched i x here is =
    rw ((named_here source_name name state.sources i x here is).1) (ap (λ k. loaded_by fetched state k x header) (index-is source_name name state.sources i here))
