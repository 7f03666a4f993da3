-- Nodes before their sources have rows.
use Rattle.std.specs.Prelude.{◌≡◌, ℕ, false, List, map, slice_get, Some}
use Rattle.dataflow.specs.Standing.{meanings}
use Rattle.datasets.specs.Dataset.{empty}
use Rattle.plan_model.specs.Evaluation.{Family}
use Rattle.plan_model.specs.declared.source_types.SourceType.{SourceType}
use Rattle.weighted_set.specs.Held.{HeldDatasets}
use Rattle.weighted_set.specs.Standing.{Meaning, Standing}

-- what the sources hold
abbrev pub committed_family : List HeldDatasets → Family
committed_family sources = map (λ h. h.committed) sources

-- no source has a row
abbrev pub no_rows : List SourceType → Family
no_rows types = map (λ _. empty) types

-- it means this, stands for inputs without rows, and nothing is pending
pub record IsFresh (of : Standing) (means : Meaning) : Type 0 where
  pub meaning : of.meaning ≡ means
  pub stands : of.StandsFor empty empty
  pub idle : of.is_pending ≡ false

-- the nodes mean these, stand for inputs without rows, and nothing is pending
pub record AreFresh {N : Type 0} (of : N → Standing) (nodes : List N) (means : List Meaning) : Type 0 where
  pub same : meanings of nodes ≡ means
  pub stand : (i : ℕ) (n : N) → slice_get nodes i ≡ Some n → (of n).StandsFor empty empty
  pub idle : (i : ℕ) (n : N) → slice_get nodes i ≡ Some n → (of n).is_pending ≡ false
