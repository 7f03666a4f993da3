-- The rows of a dataset in a store, once some are changed.
use Rattle.std.specs.Prelude.{◌≡◌, ℕ, ◌+◌, ◌<◌, Bool, true, false, cond, if◌then◌else◌, List, length, take, refl}
use Rattle.std.proofs.Common.{sym, ap, ◌∙◌, get_or}
use Rattle.std.proofs.lemmas.List.Sums.{fold_more}
use Rattle.ratios.specs.Ratio.{Ratio}
use Rattle.datasets.specs.Dataset.{Dataset, at, set_at}
use Rattle.datasets.specs.Entries.{Row, same_row}
use Rattle.datasets.proofs.Weights.{at-set_at}
use Rattle.weighted_set.specs.Changes.{applied}
use Rattle.weighted_set.specs.Parts.{set_at_key}
use Rattle.weighted_set.specs.declared.weighted.Change.{Change}
use Rattle.dataflow.specs.Outputs.{HoldRows}

put_at : (b : Bool) (x y : Row) (w : Ratio) (P : Dataset) → same_row y x ≡ b → at (if b then set_at x w P else P) y ≡ cond b w (at P y)
put_at true x y w P e = at-set_at x w P y ∙ ap (λ c. cond c w (at P y)) e
put_at false x y w P e = refl

HoldRows-set : (parts : Row → Dataset) (A : Dataset) (x : Row) (w : Ratio) (new : Row → Dataset) → ((k : Row) → new k ≡ set_at_key x x w parts k) → HoldRows parts A → HoldRows new (set_at x w A)
HoldRows-set parts A x w new put h y =
    ap (λ D. at D y) (put y) ∙ put_at (same_row y x) x y w (parts y) refl ∙ ap (cond (same_row y x) w) (h y) ∙ sym (at-set_at x w A y)

applied_more : (A : Dataset) (cs : List Change) (i : ℕ) (c : Change) → i < length cs → c ≡ get_or cs i c → applied A (take (i + 1) cs) ≡ set_at c.row c.new (applied A (take i cs))
applied_more A cs i c h is =
    fold_more (λ (B : Dataset) (c : Change). set_at c.row c.new B) A cs i c h ∙ ap (λ (d : Change). set_at d.row d.new (applied A (take i cs))) (sym is)

-- one more change is put
pub HoldRows-more : (parts new : Row → Dataset) (A : Dataset) (cs : List Change) (i : ℕ) (c : Change) → i < length cs → c ≡ get_or cs i c
    → ((k : Row) → new k ≡ set_at_key c.row c.row c.new parts k) → HoldRows parts (applied A (take i cs)) → HoldRows new (applied A (take (i + 1) cs))
HoldRows-more parts new A cs i c h is put held y =
    HoldRows-set parts (applied A (take i cs)) c.row c.new new put held y ∙ ap (λ D. at D y) (sym (applied_more A cs i c h is))
