use Rattle.request_machine.specs.Loads.{loaded}
use Rattle.request_machine.specs.Named.{first_named, source_name}
use Rattle.request_machine.specs.Updates.{updated}
use Rattle.session_core.proofs.ShownWork.{Shows-updated_of, Shows-loaded_of}
use Rattle.session_core.proofs.laws.law_work.Goals as goal

pub returns-clause-updates : goal.returns-clause-updates
unfolding updated
returns-clause-updates c = λ state name csv header fetched. Shows-updated_of (first_named source_name name state.sources) state name csv header

pub returns-clause-loads : goal.returns-clause-loads
unfolding loaded
returns-clause-loads c = λ state name path header fetched. Shows-loaded_of (first_named source_name name state.sources) state name header fetched
