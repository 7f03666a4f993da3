-- What a request comes to before noise is drawn, and what comes of it then.
use Rattle.std.specs.Prelude.{◌≡◌, ◌≤◌, ◌<◌, ℕ, ℤ, ◌+ℤ◌, All, nat_lt, List, [], ◌∷◌, length, if◌then◌else◌}
use Rattle.ratios.specs.Ratio.{Ratio, ratio_floor_units}
use Rattle.messages.specs.declared.refusal.Refusal.TheVariants as refusal
use Rattle.messages.specs.declared.reply.Reply.{Reply}
use Rattle.messages.specs.declared.reply.Reply.TheVariants as reply
use Rattle.request_machine.specs.State.{State}

-- a measurement that nothing but the noise can keep from its answer: its epsilon in millionths, the weights of its rows,
-- what it charges each source that its plan uses, and the state with that charged
pub record Measurement : Type 0 where
  pub epsilon : ℕ
  pub weights : List Ratio
  pub charged : List (List ℕ × ℕ)
  pub new : State

-- a refusal or an answer, with the state after it; or a measurement
pub data Stage : Type 0 where
  Told : State → Reply → Stage
  Measured : Measurement → Stage

abbrev pub told_by : State × Reply → Stage
told_by outcome = Told outcome.0 outcome.1

-- what is released of a weight, with a number of noise: both in units of 2^-20
abbrev pub release : Ratio → ℤ → ℤ
release weight number = ratio_floor_units weight +ℤ number

-- the same of weights and numbers, in their order
abbrev pub released : List Ratio → List ℤ → List ℤ
released [] numbers = []
released (weight ∷ weights) [] = []
released (weight ∷ weights) (number ∷ numbers) = release weight number ∷ released weights numbers

-- the state and the reply where these numbers were drawn; a measurement wants one for each row
abbrev pub finished : State → Stage → List ℤ → State × Reply
finished state (Told new answer) drawn = (new, answer)
finished state (Measured m) drawn =
    if nat_lt (length drawn) (length m.weights) then (state, reply.Refused refusal.Noise)
    else (m.new, reply.Values m.charged (released m.weights drawn))

-- the pairs of epsilon and noise that may be taken: for a measurement at most one a row, each at its epsilon, and for
-- all else none
abbrev pub MayTake : Stage → List (ℕ × ℤ) → Type 0
MayTake (Told new answer) given = given ≡ []
MayTake (Measured m) given = (length given ≤ length m.weights) × All (λ (pair : ℕ × ℤ). pair.0 ≡ m.epsilon) given

-- a measurement has fewer numbers than rows
abbrev pub LacksNoise : Stage → List ℤ → Type 0
LacksNoise (Told new answer) drawn = ⊥
LacksNoise (Measured m) drawn = length drawn < length m.weights
