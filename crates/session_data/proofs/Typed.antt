-- Sound sources are a family that plans can be run on.
use Rattle.std.proofs.Common.{◌≡◌, ℕ, zero, suc, List, [], ◌∷◌, Bool, true, false, sym, subst, ◌∙◌, inl, inr, true≢false}
use Rattle.std.specs.Prelude.{All, ◌⊎◌}
use Rattle.std.proofs.lemmas.List.Elements.{All-head, All-tail}
use Rattle.ratios.specs.Ratio.{zero_ratio, ◌≼◌}
use Rattle.ratios.specs.Range.{InRange}
use Rattle.datasets.specs.Entries.{Row}
use Rattle.datasets.specs.Dataset.{Dataset, at, rows}
use Rattle.datasets.proofs.Weights.{at-empty}
use Rattle.operators.proofs.SingleWeights.{AllByRecursion-has_row}
use Rattle.weighted_set.proofs.Parts.{at-present}
use Rattle.weighted_set.specs.Held.{AllInRange}
use Rattle.plan_model.specs.Evaluation.{dataset_at}
use Rattle.plan_model.specs.Types.{Keeps, KeepsType}
use Rattle.request_machine.specs.Sound.{IsSoundSource}
use Rattle.request_machine.specs.State.{SourceState, family_of, type_of, types_of}
use Rattle.session_data.proofs.SourceLemmas.{zero_in_range}

signs_kept : (signed : Bool) (A : Dataset) → (signed ≡ true) ⊎ ((row : Row) → zero_ratio ≼ at A row) → signed ≡ false → (row : Row) → zero_ratio ≼ at A row
signs_kept signed A (inl free) strict = absurd (true≢false (sym free ∙ strict))
signs_kept signed A (inr none) strict = none

pub KeepsType-sound : (source : SourceState) → IsSoundSource source → KeepsType (type_of source) source.rows
KeepsType-sound source sound = record {
  columns = AllByRecursion-has_row _ (rows source.rows) (λ row here. sound.typed.kinds_kept row (at-present source.rows row here));
  sign = signs_kept source.signed source.rows sound.typed.sign_kept;
}

pub Keeps-sound : (sources : List SourceState) → All IsSoundSource sources → Keeps (types_of sources) (family_of sources)
Keeps-sound [] all = tt
Keeps-sound (source ∷ sources) all =
    (KeepsType-sound source (All-head IsSoundSource source sources all), Keeps-sound sources (All-tail IsSoundSource source sources all))

pub AllInRange-sound : (sources : List SourceState) → All IsSoundSource sources → (s : ℕ) → AllInRange (dataset_at (family_of sources) s)
AllInRange-sound [] all s row = subst InRange (sym (at-empty row)) zero_in_range
AllInRange-sound (source ∷ sources) all zero row = (All-head IsSoundSource source sources all).in_range row
AllInRange-sound (source ∷ sources) all (suc s) row = AllInRange-sound sources (All-tail IsSoundSource source sources all) s row
