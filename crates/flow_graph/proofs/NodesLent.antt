-- Nodes of a vector that were lent.
use Rattle.std.proofs.Common.{◌≡◌, List, length, Vec, ap, sym, ◌∙◌, subst}
use Rattle.std.specs.Vec.{with_items}
use Rattle.std.proofs.lemmas.List.{with_items_is}
use Rattle.weighted_set.specs.Standing.{Standing}
use Rattle.dataflow.specs.Standing.{meanings}
use Rattle.dataflow.proofs.Pairs.{same_count}

module _ {N Z : Type 0} (of : N → Standing) (v : Vec N Z) (lent new : List N) (is : lent ≡ v.items) (same : meanings of new ≡ meanings of lent) where
  items_are : (with_items v new).items ≡ new
  items_are = with_items_is v new (same_count of lent new same ∙ ap length is ∙ sym v.ok.0)

  -- a fact of them holds of the vector
  pub given_back : (P : List N → Type 0) → P new → P (with_items v new).items
  given_back P h = subst P (sym items_are) h
