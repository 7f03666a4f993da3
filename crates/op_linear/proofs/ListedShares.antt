-- The rows that items make of a row, as they are listed.
use Rattle.std.specs.Prelude.{◌≡◌, ◌<◌, ℕ, pos, List, [], ◌∷◌, Option, Some, None, refl, unwrap_or}
use Rattle.std.specs.List.{AllByRecursion}
use Rattle.std.specs.Map.{keys_of, lookup, values_of}
use Rattle.std.specs.Option.{option_map}
use Rattle.std.proofs.Common.{sym, ap, subst, ◌∙◌}
use Rattle.std.proofs.lemmas.List.Elements.{recursion_from_All}
use Rattle.std.proofs.lemmas.Map.Made.{lookup-map_values}
use Rattle.ratios.specs.Ratio.{ratio, zero_ratio}
use Rattle.ratios.proofs.Products.{ratio_of_none}
use Rattle.datasets.specs.Dataset.{Dataset}
use Rattle.datasets.specs.Entries.{AreRising, NoneZero, Row, rows_of, same_row, weight_in}
use Rattle.datasets.proofs.Equality.{same_weights}
use Rattle.operators.specs.Operators.{Giving, divisor}
use Rattle.operators.specs.Keys.{shares}
use Rattle.op_linear.specs.ManyLaws.{at-shares}
use Rattle.op_linear.specs.Shares.{AreAboveZero, RowSums, divided, given, sum_at}
use Rattle.op_linear.proofs.Quotients.{ratio-above_zero}

rows_of-divided : (d : ℕ) (es : RowSums) → rows_of (divided d es) ≡ keys_of es
rows_of-divided d [] = refl
rows_of-divided d (e ∷ es) = ap (λ xs. e.0 ∷ xs) (rows_of-divided d es)

NoneZero-divided : (d : ℕ) (es : RowSums) → 0 < d → AllByRecursion (λ n. 0 < n) (values_of es) → NoneZero (divided d es)
NoneZero-divided d [] p h = tt
NoneZero-divided d (e ∷ es) p h = (ratio-above_zero e.1 d h.0 p, NoneZero-divided d es p h.1)

weight_in-divided : (d : ℕ) (es : RowSums) (z : Row) → weight_in (divided d es) z ≡ ratio (pos (sum_at es z)) (pos d)
weight_in-divided d es z = ap (λ o. unwrap_or o zero_ratio) (lookup-map_values (λ n. ratio (pos n) (pos d)) (same_row z) es) ∙ found (lookup (same_row z) es)
  where
    found : (o : Option ℕ) → unwrap_or (option_map (λ n. ratio (pos n) (pos d)) o) zero_ratio ≡ ratio (pos (unwrap_or o 0)) (pos d)
    found None = sym (ratio_of_none d)
    found (Some n) = refl

-- the weights of the items that give each row, divided
pub shares-listed : (over : ℕ) (items : List Giving) (y : Row) (es : RowSums) → AreRising (keys_of es) → AreAboveZero es → ((z : Row) → sum_at es z ≡ given items y z) → 0 < divisor over items y →
    divided (divisor over items y) es ≡ (shares over items y).entries
shares-listed over items y es rising above sums p =
    let d = divisor over items y in
    let listed : Dataset = record { entries = divided d es; rising = subst AreRising (sym (rows_of-divided d es)) rising; none_zero = NoneZero-divided d es p (recursion_from_All (λ n. 0 < n) (values_of es) above) } in
    ap (λ (A : Dataset). A.entries) (same_weights listed (shares over items y) (λ z.
    weight_in-divided d es z ∙ ap (λ n. ratio (pos n) (pos d)) (sums z) ∙ sym (at-shares over items y z)))
