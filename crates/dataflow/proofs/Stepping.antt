-- From a step of a plan to its operator.
use Rattle.std.proofs.Common.{◌≡◌, ℕ, false, List, subst, sym}
use Rattle.std.specs.Prelude.{Option, Result, Ok, Err, IfErr}
use Rattle.datasets.specs.Dataset.{Dataset}
use Rattle.weighted_set.specs.Standing.{IsWithin, KeepsWork, MayBecome, Standing}
use Rattle.weighted_set.specs.declared.part_op.OpFault.{OpFault}
use Rattle.weighted_set.specs.declared.part_op.OpFault.TheVariants.{Range}
use Rattle.weighted_set.specs.declared.weighted.Change.{Change}
use Rattle.dataflow.specs.declared.wire.Wire.{Wire}
use Rattle.dataflow.specs.declared.wire.Wire.TheVariants.{Of}
use Rattle.dataflow.specs.Changes.{changes_at, right_changes}
use Rattle.dataflow.specs.Evaluation.{dataset_at, right_dataset, step_passes}
use Rattle.dataflow.specs.Standing.{MayStep, StepKeepsWork}
use Rattle.dataflow.specs.Work.{step_work}

module _ (of : Standing) (wires : List Wire) (sources lists : List (List Change)) (wire : Wire)
    (left : ℕ) (right : Option ℕ) (is : wire ≡ Of left right)
    (left_list right_list : List Change) (left_is : left_list ≡ changes_at wires sources lists left) (right_is : right_list ≡ right_changes wires sources lists right) where
  abbrev May : List Dataset → List Dataset → Type 0
  May As Bs = MayStep of wires sources lists As Bs wire

  abbrev MayOf : Dataset → Dataset → Dataset → Dataset → Type 0
  MayOf A B C D = MayBecome of left_list right_list A B C D

  inputs_of : (As Bs : List Dataset) → May As Bs → MayOf (dataset_at As left) (right_dataset As right) (dataset_at Bs left) (right_dataset Bs right)
  inputs_of As Bs m =
      let A = dataset_at As left in let B = right_dataset As right in let C = dataset_at Bs left in let D = right_dataset Bs right in
      subst (λ list. MayBecome of list right_list A B C D) (sym left_is)
      (subst (λ list. MayBecome of (changes_at wires sources lists left) list A B C D) (sym right_is)
      (subst (MayStep of wires sources lists As Bs) is m))

  pub some_inputs : ((As : List Dataset) × ((Bs : List Dataset) × May As Bs)) → (A : Dataset) × ((B : Dataset) × ((C : Dataset) × ((D : Dataset) × MayOf A B C D)))
  some_inputs s =
      let As = s.0 in let Bs = s.1.0 in
      (dataset_at As left, (right_dataset As right, (dataset_at Bs left, (right_dataset Bs right, inputs_of As Bs s.1.1))))

  pub range_of : {X : Type 0} (result : Result X OpFault) → IfErr result (λ e. e ≡ Range → (A B C D : Dataset) → MayOf A B C D → of.meaning.fits C D ≡ false)
      → IfErr result (λ e. e ≡ Range → (As Bs : List Dataset) → May As Bs → step_passes of.meaning.fits wire Bs ≡ false)
  range_of (Ok x) h = tt
  range_of (Err e) h = λ q As Bs m.
      subst (λ w. step_passes of.meaning.fits w Bs ≡ false) (sym is) (h q (dataset_at As left) (right_dataset As right) (dataset_at Bs left) (right_dataset Bs right) (inputs_of As Bs m))

  pub work_of : (a b : ℕ) → KeepsWork of left_list right_list a b → StepKeepsWork of wires sources lists wire a b
  work_of a b h As Bs m =
      subst (λ w. IsWithin a (step_work of.meaning.work w As Bs) b) (sym is)
      (h (dataset_at As left) (right_dataset As right) (dataset_at Bs left) (right_dataset Bs right) (inputs_of As Bs m))
