-- What the fields of a step that are read are known to be.
use Rattle.std.proofs.Common.{◌≡◌, ℕ, ◌&&◌, nat_le, nat_lt, List, true, Some, Ok}
use Rattle.std.proofs.lemmas.Bool.{and_parts}
use Rattle.std.proofs.lemmas.Option.{cond_some, option_and_then_some}
use Rattle.serde_json.specs.Data.{Data}
use Rattle.expr_text.specs.declared.fault.Place.{Place}
use Rattle.expr_text.proofs.Walks.{was_there}
use Rattle.plan_reader.specs.Fields.{earlier, earlier_in, within, whole_in, whole_of}

earlier_is_below : (at n k : ℕ) → earlier at n ≡ Some k → nat_lt k at ≡ true
earlier_is_below at n k e =
    let tested = cond_some (nat_lt n at) n k e in
    rw (← tested.1) tested.0

pub earlier_in-below : (p : Place) (key : List ℕ) (d : Data) (k : ℕ) → earlier_in p key d ≡ Ok k → nat_lt k p.step ≡ true
earlier_in-below p key d k e =
    option_and_then_some (earlier p.step) (whole_of key d) k (was_there p _ k e) (λ n is below. earlier_is_below p.step n k below)

within-bounds : (least most n k : ℕ) → within least most n ≡ Some k → (nat_le least k ≡ true) × (nat_le k most ≡ true)
within-bounds least most n k e =
    let tested = cond_some (nat_le least n && nat_le n most) n k e in
    rw (← tested.1) (and_parts (nat_le least n) (nat_le n most) tested.0)

pub whole_in-bounds : (p : Place) (key : List ℕ) (least most : ℕ) (d : Data) (k : ℕ) → whole_in p key least most d ≡ Ok k →
    (nat_le least k ≡ true) × (nat_le k most ≡ true)
whole_in-bounds p key least most d k e =
    option_and_then_some (within least most) (whole_of key d) k (was_there p _ k e) (λ n is found. within-bounds least most n k found)
