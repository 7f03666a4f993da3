-- What engines by key mean and hold.
use Rattle.std.specs.Prelude.{◌≡◌, Bool, true, false, None, Some}
use Rattle.datasets.specs.Dataset.{Dataset}
use Rattle.datasets.specs.Entries.{Row}
use Rattle.weighted_set.specs.Held.{HeldDatasets}
use Rattle.weighted_set.specs.Parts.{StoreParts, committed_part, pending_part}
use Rattle.weighted_set.specs.Standing.{Meaning, Standing}
use Rattle.weighted_set.specs.declared.part_op.PartOp.{Ghosts}
use Rattle.weighted_set.specs.declared.part_op.Side.TheVariants.{Left, Right}
use Rattle.engines.specs.Standing.{AreSettled, HoldParts, HoldSettled}
use Rattle.engines.specs.WholeInputs.{AreCommitted, ArePending, HaveSettled}
use Rattle.engines.specs.Work.{part_work}

-- what an operator by key means: its work is that at the keys which are touched
abbrev pub meaning_of : {O : Type 0} → Ghosts O → O → Meaning
meaning_of of op = record {
  takes = of.takes op;
  fits = of.fits op;
  output = of.output op;
  work = λ A B C D. Some (part_work (of.keys op Left) (of.keys op Right) A B C D);
}

-- stores with nothing pending hold the parts of both inputs
abbrev pub settled_by : (Row → Dataset) → (Row → Dataset) → Meaning → StoreParts → StoreParts → Standing
settled_by left_keys right_keys meaning left right = record {
  meaning = meaning;
  StandsFor = HoldSettled left_keys right_keys left right;
  StandsPending = HoldParts left_keys right_keys (pending_part left) (pending_part right);
  is_pending = false;
}

-- the same of an operator by key
abbrev pub settled_standing : {O : Type 0} → Ghosts O → O → StoreParts → StoreParts → Standing
settled_standing of op left right = settled_by (of.keys op Left) (of.keys op Right) (meaning_of of op) left right

-- an operator with stores of the parts of both inputs
abbrev pub keyed_standing : {O : Type 0} → Ghosts O → O → StoreParts → StoreParts → Bool → Standing
keyed_standing of op left right pending = record {
  meaning = meaning_of of op;
  StandsFor = λ A B. HoldParts (of.keys op Left) (of.keys op Right) (committed_part left) (committed_part right) A B × (pending ≡ false → AreSettled left right);
  StandsPending = λ A B. (pending ≡ true) × HoldParts (of.keys op Left) (of.keys op Right) (pending_part left) (pending_part right) A B;
  is_pending = pending;
}

-- what an operator with its whole inputs means: its work has no bound
abbrev pub whole_meaning : {O : Type 0} → Ghosts O → O → Meaning
whole_meaning of op = record { takes = of.takes op; fits = of.fits op; output = of.output op; work = λ A B C D. None }

-- an operator with its whole inputs, with nothing pending
abbrev pub plain_standing : {O : Type 0} → Ghosts O → O → HeldDatasets → HeldDatasets → Standing
plain_standing of op left right = record {
  meaning = whole_meaning of op;
  StandsFor = AreCommitted left right;
  StandsPending = ArePending left right;
  is_pending = false;
}

-- an operator with its whole inputs
abbrev pub whole_standing : {O : Type 0} → Ghosts O → O → HeldDatasets → HeldDatasets → Bool → Standing
whole_standing of op left right pending = record {
  meaning = whole_meaning of op;
  StandsFor = λ A B. AreCommitted left right A B × (pending ≡ false → HaveSettled left right);
  StandsPending = λ A B. (pending ≡ true) × ArePending left right A B;
  is_pending = pending;
}
