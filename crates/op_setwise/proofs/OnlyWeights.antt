-- The weight of the only row of a listed part.
use Rattle.std.specs.Prelude.{◌≡◌, ◌≢◌, cond, List, [], ◌∷◌, slice_get, Some}
use Rattle.std.proofs.Common.{sym, ap, subst, ◌∙◌}
use Rattle.std.proofs.lemmas.Option.{same_Some}
use Rattle.ratios.specs.Ratio.{zero_ratio}
use Rattle.datasets.specs.Dataset.{at}
use Rattle.datasets.specs.Entries.{NoneZero, Row, weight_in}
use Rattle.datasets.proofs.Rows.{same_row-itself}
use Rattle.datasets.proofs.Weights.{at-empty, weight_in-cons}
use Rattle.weighted_set.specs.Changes.{entries_of}
use Rattle.weighted_set.specs.Parts.{IsListed, listed}
use Rattle.weighted_set.specs.declared.weighted.Weighted.{Weighted}
use Rattle.weighted_set.proofs.Sets.{dataset_of-none}
use Rattle.op_parts.specs.Takes.{HasOnly}

weight-of_first : (e : Weighted) (es : List Weighted) → IsListed (e ∷ es) → (k : Row) → HasOnly k (listed (e ∷ es)) → e.weight ≡ at (listed (e ∷ es)) k
weight-of_first e es is_listed k only =
    let own : at (listed (e ∷ es)) e.row ≡ e.weight =
    ap (λ fs. weight_in fs e.row) is_listed ∙ weight_in-cons e.row (e.row, e.weight) (entries_of es) ∙ ap (λ b. cond b e.weight (weight_in (entries_of es) e.row)) (same_row-itself e.row) in
    let weighed : e.weight ≢ zero_ratio = (subst NoneZero is_listed (listed (e ∷ es)).none_zero).0 in
    sym own ∙ ap (at (listed (e ∷ es))) (only e.row (λ none. weighed (sym own ∙ none)))

-- the weight of the first entry of a list is that of its only row
pub weight-of_only : (list : List Weighted) (e : Weighted) → slice_get list 0 ≡ Some e → IsListed list → (k : Row) → HasOnly k (listed list) → e.weight ≡ at (listed list) k
weight-of_only [] e is is_listed k only = cc
weight-of_only (d ∷ list) e is is_listed k only = ap (λ (w : Weighted). w.weight) (sym (same_Some d e is)) ∙ weight-of_first d list is_listed k only

pub weight-of_none : (k : Row) → zero_ratio ≡ at (listed []) k
weight-of_none k = sym (ap (λ A. at A k) dataset_of-none ∙ at-empty k)
