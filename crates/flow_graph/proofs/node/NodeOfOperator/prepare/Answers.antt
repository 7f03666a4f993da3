-- Each operator is prepared as it is.
use Rattle.flow_graph.proofs.node.NodeOfOperator.prepare.Goals as goal

pub prepare-requires-clause-inputs : goal.prepare-requires-clause-inputs
prepare-requires-clause-inputs g c = rw c.in-Filter.is at c.requires.inputs

pub prepare-requires-in-Select-clause-inputs : goal.prepare-requires-in-Select-clause-inputs
prepare-requires-in-Select-clause-inputs g c = rw c.in-Select.is at c.requires.inputs

pub prepare-requires-in-Many-clause-inputs : goal.prepare-requires-in-Many-clause-inputs
prepare-requires-in-Many-clause-inputs g c = rw c.in-Many.is at c.requires.inputs

pub prepare-requires-in-Shave-clause-inputs : goal.prepare-requires-in-Shave-clause-inputs
prepare-requires-in-Shave-clause-inputs g c = rw c.in-Shave.is at c.requires.inputs

pub prepare-requires-in-Set-clause-inputs : goal.prepare-requires-in-Set-clause-inputs
prepare-requires-in-Set-clause-inputs g c = rw c.in-Set.is at c.requires.inputs

pub prepare-requires-in-Join-clause-inputs : goal.prepare-requires-in-Join-clause-inputs
prepare-requires-in-Join-clause-inputs g c = rw c.in-Join.is at c.requires.inputs

pub prepare-requires-in-Group-clause-inputs : goal.prepare-requires-in-Group-clause-inputs
prepare-requires-in-Group-clause-inputs g c = rw c.in-Group.is at c.requires.inputs

pub returns-in-Filter-clause-ok : goal.returns-in-Filter-clause-ok
returns-in-Filter-clause-ok g c = rw c.in-Filter.is c.prepare.ensures.ok

pub returns-in-Select-clause-ok : goal.returns-in-Select-clause-ok
returns-in-Select-clause-ok g c = rw c.in-Select.is c.prepare-in-Select.ensures.ok

pub returns-in-Many-clause-ok : goal.returns-in-Many-clause-ok
returns-in-Many-clause-ok g c = rw c.in-Many.is c.prepare-in-Many.ensures.ok

pub returns-in-Shave-clause-ok : goal.returns-in-Shave-clause-ok
returns-in-Shave-clause-ok g c = rw c.in-Shave.is c.prepare-in-Shave.ensures.ok

pub returns-in-Set-clause-ok : goal.returns-in-Set-clause-ok
returns-in-Set-clause-ok g c = rw c.in-Set.is c.prepare-in-Set.ensures.ok

pub returns-in-Join-clause-ok : goal.returns-in-Join-clause-ok
returns-in-Join-clause-ok g c = rw c.in-Join.is c.prepare-in-Join.ensures.ok

pub returns-in-Group-clause-ok : goal.returns-in-Group-clause-ok
returns-in-Group-clause-ok g c = rw c.in-Group.is c.prepare-in-Group.ensures.ok

pub returns-in-Filter-clause-work : goal.returns-in-Filter-clause-work
returns-in-Filter-clause-work g c = rw c.in-Filter.is c.prepare.ensures.work

pub returns-in-Select-clause-work : goal.returns-in-Select-clause-work
returns-in-Select-clause-work g c = rw c.in-Select.is c.prepare-in-Select.ensures.work

pub returns-in-Many-clause-work : goal.returns-in-Many-clause-work
returns-in-Many-clause-work g c = rw c.in-Many.is c.prepare-in-Many.ensures.work

pub returns-in-Shave-clause-work : goal.returns-in-Shave-clause-work
returns-in-Shave-clause-work g c = rw c.in-Shave.is c.prepare-in-Shave.ensures.work

pub returns-in-Set-clause-work : goal.returns-in-Set-clause-work
returns-in-Set-clause-work g c = rw c.in-Set.is c.prepare-in-Set.ensures.work

pub returns-in-Join-clause-work : goal.returns-in-Join-clause-work
returns-in-Join-clause-work g c = rw c.in-Join.is c.prepare-in-Join.ensures.work

pub returns-in-Group-clause-work : goal.returns-in-Group-clause-work
returns-in-Group-clause-work g c = rw c.in-Group.is c.prepare-in-Group.ensures.work
