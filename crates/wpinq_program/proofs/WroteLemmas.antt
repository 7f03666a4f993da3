-- Replies that were written, all of them or a proper front.
use Rattle.std.proofs.Common.{◌≡◌, ℕ, Bool, true, false, List, [], ◌∷◌, ◌++◌, refl, ap, sym, append-nil, ◌<◌, ◌+◌, length, take, length-append, arith}
use Rattle.std.specs.Prelude.{MatchBool, MatchResult, Result, Ok, Err, is_ok}
use Rattle.std.proofs.lemmas.Grind.{flat_map-append}
use Rattle.std.proofs.lemmas.List.{take_all}
use Rattle.std.proofs.Math.Seq.{take-append-add}
use Rattle.io_edge.specs.declared.failed.Failed.{Failed}
use Rattle.io_edge.specs.Known.{Gains}
use Rattle.io_edge.proofs.KnownLemmas.{Gains-none, Gains-append}
use Rattle.wpinq_program.specs.Served.{joined, IsProperFront, Moment, Wrote}

pub Wrote-none : (m : Moment) → Wrote m m [] true
Wrote-none m = record { text = []; put = Gains-none m.written; whole = refl }

-- a proper front of what follows a whole text
front_behind : (text more part : List ℕ) → IsProperFront part more → IsProperFront (text ++ part) (text ++ more)
front_behind text more part f =
    (length text + f.0, omega (arith, f.1, length-append text more), rw (f.2) (sym (take-append-add text more f.0)))

whole_behind : (all : Bool) (text more part : List ℕ) → MatchBool all (part ≡ more) (IsProperFront part more)
    → MatchBool all (text ++ part ≡ text ++ more) (IsProperFront (text ++ part) (text ++ more))
whole_behind true text more part e = ap (λ l. text ++ l) e
whole_behind false text more part f = front_behind text more part f

pub Wrote-append : (a b c : Moment) (replies more : List (List ℕ)) (all : Bool) → Wrote a b replies true → Wrote b c more all
    → Wrote a c (replies ++ more) all
Wrote-append a b c replies more all p q = record {
  text = p.text ++ q.text;
  put = Gains-append a.written b.written c.written p.text q.text p.put q.put;
  whole = rw (flat_map-append, ← p.whole) (whole_behind all p.text (joined more) q.text q.whole);
}

written_whole : (reply : List ℕ) (n : ℕ) (result : Result (Unit {0}) Failed)
    → MatchResult result (λ _. n ≡ length reply) (λ _. n < length reply)
    → MatchBool (is_ok result) (take n reply ≡ reply) (IsProperFront (take n reply) reply)
written_whole reply n (Ok x) e = take_all n reply (omega (arith, e))
written_whole reply n (Err x) e = (n, e, refl)

-- one reply
pub Wrote-one : (a b : Moment) (reply : List ℕ) (n : ℕ) (result : Result (Unit {0}) Failed) → Gains a.written b.written (take n reply)
    → MatchResult result (λ _. n ≡ length reply) (λ _. n < length reply) → Wrote a b (reply ∷ []) (is_ok result)
Wrote-one a b reply n result put whole =
    record { text = take n reply; put = put; whole = rw (append-nil) (written_whole reply n result whole) }
