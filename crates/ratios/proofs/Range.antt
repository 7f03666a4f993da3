-- `in_range` in terms of the parts, and what `checked` answers.
use Rattle.std.specs.Prelude.{◌^◌, ◌<◌, ◌≡◌, Bool, true, false, nat_lt, cond, unsigned_abs, Some, None, refl}
use Rattle.std.proofs.Common.{arith, true≢false, sym, ap}
use Rattle.std.proofs.lemmas.Bool.{and_parts, false_from_ne_true}
use Rattle.std.proofs.lemmas.Bool.Decides.{nat_tests}
use Rattle.ratios.specs.Ratio.{Ratio}
use Rattle.ratios.specs.Range.{in_range, InRange, checked}

pub InRange-from_bounds : (q : Ratio) → unsigned_abs q.num < 2 ^ 62 → q.den < 2 ^ 62 → InRange q
unfolding in_range
InRange-from_bounds q h k = grind (arith, nat_tests)

pub bounds_of_InRange : (q : Ratio) → InRange q → (unsigned_abs q.num < 2 ^ 62) × (q.den < 2 ^ 62)
unfolding in_range
bounds_of_InRange q h =
    let p = and_parts (nat_lt (unsigned_abs q.num) (2 ^ 62)) (nat_lt q.den (2 ^ 62)) h in
    let e : nat_lt (unsigned_abs q.num) (2 ^ 62) ≡ true = p.0 in
    let f : nat_lt q.den (2 ^ 62) ≡ true = p.1 in
    (grind (arith, nat_tests), grind (arith, nat_tests))

-- ---- what `checked` answers
pub checked-in : (q : Ratio) → InRange q → checked q ≡ Some q
checked-in q h = ap (λ b. cond b (Some q) None) h

pub in_range-out : (q : Ratio) → ¬ (InRange q) → in_range q ≡ false
in_range-out q n = false_from_ne_true (in_range q) n

pub checked-out : (q : Ratio) → ¬ (InRange q) → checked q ≡ None
checked-out q n = ap (λ b. cond b (Some q) None) (in_range-out q n)

some_or_none : (b : Bool) (q r : Ratio) → cond b (Some q) None ≡ Some r → (b ≡ true) × (r ≡ q)
some_or_none true q r e = (refl, cc)
some_or_none false q r e = cc

-- an answer is the exact value, in range
pub checked_some : (q r : Ratio) → checked q ≡ Some r → InRange q × (r ≡ q)
checked_some q r e = some_or_none (in_range q) q r e

none_if_out : (b : Bool) (q : Ratio) → cond b (Some q) None ≡ None → ¬ (b ≡ true)
none_if_out true q e = cc
none_if_out false q e = λ h. true≢false (sym h)

-- no answer comes only out of range
pub checked_none : (q : Ratio) → checked q ≡ None → ¬ (InRange q)
checked_none q e = none_if_out (in_range q) q e
