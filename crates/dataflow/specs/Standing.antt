-- What the steps of a plan stand for, and which changes of their sources they can be asked for.
use Rattle.std.specs.Prelude.{◌≡◌, ℕ, ◌<◌, true, false, List, map, Some, slice_get}
use Rattle.datasets.specs.Dataset.{Dataset}
use Rattle.weighted_set.specs.Held.{AllInRange}
use Rattle.weighted_set.specs.Standing.{HasAnswered, IsWithin, MayBecome, Meaning, Standing}
use Rattle.weighted_set.specs.declared.weighted.Change.{Change}
use Rattle.dataflow.specs.declared.wire.Wire.{Wire}
use Rattle.dataflow.specs.declared.wire.Wire.TheVariants.{Source, Of}
use Rattle.dataflow.specs.Changes.{AreFamilyChanges, AreStepChanges, changes_at, right_changes}
use Rattle.dataflow.specs.Evaluation.{Family, dataset_at, evals, fits_at, right_dataset, step_passes, takes_at}
use Rattle.dataflow.specs.Wiring.{wire_at}
use Rattle.dataflow.specs.Work.{all_works, step_work}

-- ---- facts of each step

-- a fact of the inputs of a step, if it has inputs
abbrev pub OfInputs : (Dataset → Dataset → Type 0) → Wire → List Dataset → Type 0
OfInputs P (Source s) As = Unit {0}
OfInputs P (Of left right) As = P (dataset_at As left) (right_dataset As right)

-- a fact of each operator and its inputs
abbrev pub EachStep : {N : Type 0} → (N → Dataset → Dataset → Type 0) → List N → List Wire → List Dataset → Type 0
EachStep {N} P nodes wires As = (i : ℕ) (n : N) → slice_get nodes i ≡ Some n → OfInputs (P n) (wire_at wires i) As

-- a fact of each operator, and what became of it
abbrev pub EachPair : {N : Type 0} → (N → N → Type 0) → List N → List N → Type 0
EachPair {N} P old new = (i : ℕ) (n m : N) → slice_get old i ≡ Some n → slice_get new i ≡ Some m → P n m

-- what the operators mean
abbrev pub meanings : {N : Type 0} → (N → Standing) → List N → List Meaning
meanings of nodes = map (λ n. (of n).meaning) nodes

-- nothing is pending
abbrev pub AreIdle : {N : Type 0} → (N → Standing) → List N → Type 0
AreIdle {N} of nodes = (i : ℕ) (n : N) → slice_get nodes i ≡ Some n → (of n).is_pending ≡ false

-- each operator stands for what the sources F give it
abbrev pub StepsStand : {N : Type 0} → (N → Standing) → List N → List Wire → Family → Type 0
StepsStand of nodes wires F = EachStep (λ n. (of n).StandsFor) nodes wires (evals (meanings of nodes) wires F)

-- what is pending in each operator is what the sources F give it
abbrev pub StepsPend : {N : Type 0} → (N → Standing) → List N → List Wire → Family → Type 0
StepsPend of nodes wires F = EachStep (λ n. (of n).StandsPending) nodes wires (evals (meanings of nodes) wires F)

-- ---- what a call keeps

-- what one operator stands for, another stands for
abbrev pub KeepsInputs : {N : Type 0} → (N → Standing) → N → N → Type 0
KeepsInputs of n m = (A B : Dataset) → (of n).StandsFor A B → (of m).StandsFor A B

-- what is pending in one operator, or what it stands for if nothing is, another stands for
abbrev pub CommitsInputs : {N : Type 0} → (N → Standing) → N → N → Type 0
CommitsInputs of n m =
    ((A B : Dataset) → (of n).StandsPending A B → (of m).StandsFor A B)
    × ((of n).is_pending ≡ false → (A B : Dataset) → (of n).StandsFor A B → (of m).StandsFor A B)

-- ---- changes of the sources

-- the sources F may become G by these changes
pub record MayChange (ms : List Meaning) (wires : List Wire) (sources : List (List Change)) (F G : Family) : Type 0 where
  pub changes : AreFamilyChanges sources F G
  pub in_range : (s : ℕ) → AllInRange (dataset_at F s)
  pub fits_before : (i : ℕ) → fits_at ms wires F i ≡ true
  pub takes_before : (i : ℕ) → takes_at ms wires F i ≡ true
  pub takes_after : (i : ℕ) → takes_at ms wires G i ≡ true

-- the step i is the first that doesn't fit its inputs
pub record IsMisfit (ms : List Meaning) (wires : List Wire) (F : Family) (i : ℕ) : Type 0 where
  pub here : fits_at ms wires F i ≡ false
  pub earlier : (j : ℕ) → j < i → fits_at ms wires F j ≡ true

-- ---- one step

-- the operator of a step can be asked for these changes, where the steps' datasets As become Bs
abbrev pub MayStep : Standing → List Wire → List (List Change) → List (List Change) → List Dataset → List Dataset → Wire → Type 0
MayStep of wires sources lists As Bs (Source s) = Unit {0}
MayStep of wires sources lists As Bs (Of left right) =
    MayBecome of (changes_at wires sources lists left) (right_changes wires sources lists right) (dataset_at As left) (right_dataset As right) (dataset_at Bs left) (right_dataset Bs right)

-- the operator of a step can be asked for some datasets of the steps
abbrev pub StepHasInputs : Standing → List Wire → List (List Change) → List (List Change) → Wire → Type 0
StepHasInputs of wires sources lists wire = (As : List Dataset) × ((Bs : List Dataset) × MayStep of wires sources lists As Bs wire)

-- the operator of a step has answered, if it has inputs
abbrev pub HasStepped : Standing → Standing → List Change → List Dataset → List Dataset → Wire → Type 0
HasStepped old new list As Bs (Source s) = Unit {0}
HasStepped old new list As Bs (Of left right) = HasAnswered old new list (dataset_at As left) (right_dataset As right) (dataset_at Bs left) (right_dataset Bs right)

-- whatever the changes make of the steps' datasets, the operator of a step has answered
abbrev pub StepAnswers : Standing → Standing → List Change → List Wire → List (List Change) → List (List Change) → Wire → Type 0
StepAnswers old new list wires sources lists wire = (As Bs : List Dataset) → MayStep old wires sources lists As Bs wire → HasStepped old new list As Bs wire

-- whatever the changes make of the steps' datasets, they don't fit the operator of a step
abbrev pub StepMisfits : Standing → List Wire → List (List Change) → List (List Change) → Wire → Type 0
StepMisfits of wires sources lists wire =
    (As Bs : List Dataset) → MayStep of wires sources lists As Bs wire → step_passes of.meaning.fits wire Bs ≡ false

-- whatever the changes make of the steps' datasets, the ticks are within the work of a step
abbrev pub StepKeepsWork : Standing → List Wire → List (List Change) → List (List Change) → Wire → ℕ → ℕ → Type 0
StepKeepsWork of wires sources lists wire old new =
    (As Bs : List Dataset) → MayStep of wires sources lists As Bs wire → IsWithin old (step_work of.meaning.work wire As Bs) new

-- ---- all steps

-- each step lists its changes, fits its inputs, and what is pending in it is what the sources G give it
pub record HaveStepped {N : Type 0} (of : N → Standing) (old new : List N) (wires : List Wire) (sources lists : List (List Change)) (F G : Family) : Type 0 where
  pub changes : AreStepChanges wires sources lists (evals (meanings of old) wires F) (evals (meanings of old) wires G)
  pub fits : (i : ℕ) → fits_at (meanings of old) wires G i ≡ true
  pub pending : StepsPend of new wires G

-- the operators stand for some sources that these changes can be made to
abbrev pub HaveInputs : {N : Type 0} → (N → Standing) → List N → List Wire → List (List Change) → Type 0
HaveInputs of nodes wires sources =
    (F : Family) × ((G : Family) × (StepsStand of nodes wires F × MayChange (meanings of nodes) wires sources F G))

-- whatever the changes make of the sources, each step has answered
abbrev pub HaveAnswered : {N : Type 0} → (N → Standing) → List N → List N → List Wire → List (List Change) → List (List Change) → Type 0
HaveAnswered of old new wires sources lists =
    (F G : Family) → StepsStand of old wires F → MayChange (meanings of old) wires sources F G → HaveStepped of old new wires sources lists F G

-- whatever the changes make of the sources, the step i is the first that doesn't fit
abbrev pub Misfits : {N : Type 0} → (N → Standing) → List N → List Wire → List (List Change) → ℕ → Type 0
Misfits of nodes wires sources i =
    (F G : Family) → StepsStand of nodes wires F → MayChange (meanings of nodes) wires sources F G → IsMisfit (meanings of nodes) wires G i

-- whatever the changes make of the sources, the ticks are within the work of all steps
abbrev pub KeepWork : {N : Type 0} → (N → Standing) → List N → List Wire → List (List Change) → ℕ → ℕ → Type 0
KeepWork of nodes wires sources old new =
    (F G : Family) → StepsStand of nodes wires F → MayChange (meanings of nodes) wires sources F G
    → IsWithin old (all_works (meanings of nodes) wires F G) new
