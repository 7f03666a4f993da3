-- Pieces taken off a weight, one after another.
use Rattle.std.specs.Prelude.{ℕ, ◌+◌, ◌≡◌, Bool, true, ◌&&◌, if◌then◌else◌, fold, List, [], ◌∷◌, ◌++◌, Option, replicate}
use Rattle.std.specs.List.{AllByRecursion}
use Rattle.ratios.specs.Range.{InRange, checked, in_range}
use Rattle.ratios.specs.Ratio.{Ratio, is_below, ratio_min, ratio_sub, zero_ratio}
use Rattle.datasets.specs.Entries.{Entries, Row}
use Rattle.operators.specs.Operators.{numbered}
use Rattle.plan_model.specs.declared.step.Run.{Run}
use Rattle.weighted_set.specs.Changes.{entries_of}
use Rattle.weighted_set.specs.declared.weighted.Weighted.{Weighted}

-- what is left of w once f is taken off it, 0 where nothing is
abbrev pub left_of : Ratio → Ratio → Ratio
left_of w f = if is_below zero_ratio w && is_below f w then ratio_sub w f else zero_ratio

-- what is left of w once pieces are taken off it from the front
abbrev pub left_after : Ratio → List Ratio → Ratio
left_after w fs = fold left_of w fs

-- what is left of w before each piece is in range
abbrev pub left_in_range : List Ratio → Ratio → Bool
left_in_range [] w = true
left_in_range (f ∷ fs) w = in_range w && left_in_range fs (left_of w f)

-- while something is left of w, the less of that and of the next piece, at x followed by the places from a on
abbrev pub shavings : Row → ℕ → List Ratio → Ratio → Entries
shavings x a [] w = []
shavings x a (f ∷ fs) w =
    if is_below zero_ratio w then (numbered (x, a), ratio_min f w) ∷ shavings x (a + 1) fs (left_of w f) else []

-- the pieces fs of w are listed behind old, no value on the way is out of range, and rest is what is left of w
pub record AreShaved (x : Row) (a : ℕ) (fs : List Ratio) (w : Ratio) (old new : Entries) (rest : Option Ratio)
    : Type 0 where
  pub added : new ≡ old ++ shavings x a fs w
  pub weights : AllByRecursion (λ e. InRange e.1) (shavings x a fs w)
  pub fits : left_in_range fs w ≡ true
  pub left : rest ≡ checked (left_after w fs)

-- the pieces of a run
abbrev pub run_pieces : Run → List Ratio
run_pieces run = replicate run.times run.weight

-- a run's pieces of w are listed behind old, and rest is what is left of w
abbrev pub RunIsShaved : Row → ℕ → Run → Ratio → List Weighted → List Weighted → Option Ratio → Type 0
RunIsShaved x a run w old new rest = AreShaved x a (run_pieces run) w (entries_of old) (entries_of new) rest
