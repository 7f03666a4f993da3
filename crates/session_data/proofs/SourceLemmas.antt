-- Sources stay sound.
use Rattle.std.proofs.Common.{◌≡◌, ◌≢◌, ◌≤◌, ℕ, true, Bool, List, [], ◌∷◌, sym, subst, arith, inl, inr}
use Rattle.std.specs.Prelude.{All, None, ◌⊎◌}
use Rattle.std.proofs.lemmas.List.Elements.{All-head, All-tail}
use Rattle.ratios.specs.Ratio.{zero_ratio, ◌≼◌}
use Rattle.ratios.specs.Range.{InRange}
use Rattle.ratios.proofs.AtMost.{at_most_itself}
use Rattle.ratios.proofs.Range.{InRange-from_bounds}
use Rattle.record_text.specs.KindLists.{kinds_of}
use Rattle.record_text.specs.declared.kinds.Kind.{Kind}
use Rattle.datasets.specs.Entries.{Row, Entries}
use Rattle.datasets.specs.Dataset.{Dataset, at, add_at, with_added, first_weight_out_of_range, first_negative}
use Rattle.datasets.proofs.Weights.{at-empty}
use Rattle.datasets.proofs.Added.{EachAdded, with_added-keeps, with_added-in_range, with_added-nonnegative}
use Rattle.weighted_set.specs.Changes.{entries_of}
use Rattle.weighted_set.specs.declared.weighted.Weighted.{Weighted}
use Rattle.request_machine.specs.Updates.{with_weights}
use Rattle.request_machine.specs.State.{SourceState, new_source}
use Rattle.request_machine.specs.Sound.{IsSoundSource}

pub zero_in_range : InRange zero_ratio
unfolding zero_ratio
zero_in_range = InRange-from_bounds zero_ratio (omega arith) (omega arith)

-- a source as it is declared
pub new_is_sound : (name : List ℕ) (kinds : List Kind) (signed : Bool) (total : ℕ) → total ≤ 1000000000000000 → IsSoundSource (new_source name kinds signed total)
new_is_sound name kinds signed total within = record {
  typed = record {
    kinds_kept = λ row some. absurd (some (at-empty row));
    sign_kept = inr (λ row. subst (λ q. zero_ratio ≼ q) (sym (at-empty row)) (at_most_itself zero_ratio));
  };
  in_range = λ row. subst InRange (sym (at-empty row)) zero_in_range;
  spent_within = omega arith;
  total_within = within;
}

-- rows of the declared kinds are added
kinds_added : (kinds : List Kind) (A : Dataset) (added : List Weighted) → All (λ (one : Weighted). kinds_of one.row ≡ kinds) added
    → EachAdded (λ row weight. weight ≢ zero_ratio → kinds_of row ≡ kinds) A (entries_of added)
kinds_added kinds A [] all = tt
kinds_added kinds A (one ∷ added) all = (
  λ some. All-head (λ (w : Weighted). kinds_of w.row ≡ kinds) one added all,
  kinds_added kinds (add_at one.row one.weight A) added (All-tail (λ (w : Weighted). kinds_of w.row ≡ kinds) one added all),
)

sign_after : (signed : Bool) (A : Dataset) (es : Entries) → (signed ≡ true) ⊎ ((row : Row) → zero_ratio ≼ at A row)
    → (signed ≡ true) ⊎ (first_negative A es ≡ None) → (signed ≡ true) ⊎ ((row : Row) → zero_ratio ≼ at (with_added A es) row)
sign_after signed A es (inl free) allowed = inl free
sign_after signed A es (inr before) (inl free) = inl free
sign_after signed A es (inr before) (inr none) = inr (with_added-nonnegative A es before none)

-- a source whose weights were added to
pub updated_is_sound : (source : SourceState) (added : List Weighted) → IsSoundSource source
    → All (λ (one : Weighted). kinds_of one.row ≡ source.kinds) added
    → first_weight_out_of_range source.rows (entries_of added) ≡ None
    → (source.signed ≡ true) ⊎ (first_negative source.rows (entries_of added) ≡ None)
    → IsSoundSource (with_weights source added)
updated_is_sound source added sound kinds within allowed =
    let es = entries_of added in
    record {
      typed = record {
        kinds_kept = with_added-keeps (λ row weight. weight ≢ zero_ratio → kinds_of row ≡ source.kinds) source.rows es sound.typed.kinds_kept (kinds_added source.kinds source.rows added kinds);
        sign_kept = sign_after source.signed source.rows es sound.typed.sign_kept allowed;
      };
      in_range = with_added-in_range source.rows es sound.in_range within;
      spent_within = sound.spent_within;
      total_within = sound.total_within;
    }
