-- What holds of every weight once rows are added one by one.
use Rattle.std.specs.Prelude.{◌≡◌, ℕ, ◌+◌, true, false, not, cond, ◌||◌, [], ◌∷◌, None, refl}
use Rattle.std.specs.List.{position_from}
use Rattle.std.proofs.Common.{sym, ap, subst, ◌∙◌, true≢false}
use Rattle.std.proofs.lemmas.Bool.{not-false, or_parts}
use Rattle.ratios.specs.Ratio.{Ratio, ◌≼◌, is_at_most, ratio_add, zero_ratio}
use Rattle.ratios.specs.Range.{in_range, InRange}
use Rattle.ratios.proofs.AtMost.{below_is_not_at_least}
use Rattle.ratios.proofs.Sums.{first_passes}
use Rattle.datasets.specs.Entries.{Row, same_row, has_row, Entries, rows_of}
use Rattle.datasets.specs.Dataset.{Dataset, at, add_at, with_added, running_weights, first_weight_out_of_range, is_negative, first_negative}
use Rattle.datasets.proofs.Rows.{same_row-equal, same_row-itself}
use Rattle.datasets.proofs.Weights.{at-add_at}

-- P holds of each row that is added and the weight that it has then
abbrev pub EachAdded : (Row → Ratio → Type 0) → Dataset → Entries → Type 0
EachAdded P A [] = Unit {0}
EachAdded P A (e ∷ es) = P e.0 (ratio_add (at A e.0) e.1) × EachAdded P (add_at e.0 e.1 A) es

-- the weight of the row that is added
added_itself : (x : Row) (w : Ratio) (A : Dataset) → at (add_at x w A) x ≡ ratio_add (at A x) w
added_itself x w A = at-add_at x w A x ∙ ap (λ b. cond b (ratio_add (at A x) w) (at A x)) (same_row-itself x)

-- the weight of another row
added_other : (x : Row) (w : Ratio) (A : Dataset) (y : Row) → same_row y x ≡ false → at (add_at x w A) y ≡ at A y
added_other x w A y other = at-add_at x w A y ∙ ap (λ b. cond b (ratio_add (at A y) w) (at A y)) other

one_keeps : (P : Row → Ratio → Type 0) (A : Dataset) (x : Row) (w : Ratio) → ((y : Row) → P y (at A y)) → P x (ratio_add (at A x) w) → (y : Row) → P y (at (add_at x w A) y)
one_keeps P A x w before here y =
    elim (same_row y x) as (λ b. same_row y x ≡ b → P y (at (add_at x w A) y)) [
      | true ↦ λ same. subst (λ (z : Row). P z (at (add_at x w A) z)) (sym (same_row-equal y x same)) (subst (P x) (sym (added_itself x w A)) here)
      | false ↦ λ other. subst (P y) (sym (added_other x w A y other)) (before y)
    ] refl

-- what holds of every weight before, and of each added row just after it is added, holds of every weight at the end
pub with_added-keeps : (P : Row → Ratio → Type 0) (A : Dataset) (es : Entries) → ((x : Row) → P x (at A x)) → EachAdded P A es → (x : Row) → P x (at (with_added A es) x)
with_added-keeps P A [] before each = before
with_added-keeps P A (e ∷ es) before each = with_added-keeps P (add_at e.0 e.1 A) es (one_keeps P A e.0 e.1 before each.0) each.1

-- ---- the running weights

in_range_from : (i : ℕ) (A : Dataset) (es : Entries) → position_from (λ q. not (in_range q)) i (running_weights A es) ≡ None → EachAdded (λ _ q. InRange q) A es
in_range_from i A [] none = tt
in_range_from i A (e ∷ es) none =
    let p = first_passes (not (in_range (ratio_add (at A e.0) e.1))) i (position_from (λ q. not (in_range q)) (i + 1) (running_weights (add_at e.0 e.1 A) es)) none in
    (not-false (in_range (ratio_add (at A e.0) e.1)) p.0, in_range_from (i + 1) (add_at e.0 e.1 A) es p.1)

-- where no running weight is out of range, none is at the end
pub with_added-in_range : (A : Dataset) (es : Entries) → ((x : Row) → InRange (at A x)) → first_weight_out_of_range A es ≡ None → (x : Row) → InRange (at (with_added A es) x)
with_added-in_range A es before none = with_added-keeps (λ _ q. InRange q) A es before (in_range_from 0 A es none)

-- ---- signs

-- a row that isn't added keeps its weight
pub with_added-other : (A : Dataset) (es : Entries) (x : Row) → has_row (rows_of es) x ≡ false → at (with_added A es) x ≡ at A x
with_added-other A [] x other = refl
with_added-other A (e ∷ es) x other =
    let p = or_parts (same_row x e.0) (has_row (rows_of es) x) other in
    with_added-other (add_at e.0 e.1 A) es x p.1 ∙ added_other e.0 e.1 A x p.0

none_negative : (B : Dataset) (i : ℕ) (es : Entries) (x : Row) → position_from (λ e. is_negative (at B e.0)) i es ≡ None → has_row (rows_of es) x ≡ true → is_negative (at B x) ≡ false
none_negative B i [] x none there = absurd (true≢false (sym there))
none_negative B i (e ∷ es) x none there =
    let p = first_passes (is_negative (at B e.0)) i (position_from (λ e. is_negative (at B e.0)) (i + 1) es) none in
    elim (same_row x e.0) as (λ b. same_row x e.0 ≡ b → (b || has_row (rows_of es) x) ≡ true → is_negative (at B x) ≡ false) [
      | true ↦ λ same here. ap (λ (y : Row). is_negative (at B y)) (same_row-equal x e.0 same) ∙ p.0
      | false ↦ λ other here. none_negative B (i + 1) es x p.1 here
    ] refl there

-- a weight that isn't below 0
pub nonnegative-from_test : (q : Ratio) → is_negative q ≡ false → zero_ratio ≼ q
nonnegative-from_test q e = not-false (is_at_most zero_ratio q) (sym (below_is_not_at_least q zero_ratio) ∙ e)

-- where no weight was below 0 and no added row ends there, none is at the end
pub with_added-nonnegative : (A : Dataset) (es : Entries) → ((x : Row) → zero_ratio ≼ at A x) → first_negative A es ≡ None → (x : Row) → zero_ratio ≼ at (with_added A es) x
with_added-nonnegative A es before none x =
    elim (has_row (rows_of es) x) as (λ b. has_row (rows_of es) x ≡ b → zero_ratio ≼ at (with_added A es) x) [
      | true ↦ λ there. nonnegative-from_test (at (with_added A es) x) (none_negative (with_added A es) 0 es x none there)
      | false ↦ λ other. subst (λ q. zero_ratio ≼ q) (sym (with_added-other A es x other)) (before x)
    ] refl
