-- Counts of faults over several calls, and the replies that they license.
use Rattle.std.proofs.Common.{◌≡◌, ◌≤◌, ◌<◌, ◌+◌, ℕ, Bool, true, false, List, [], ◌∷◌, ◌++◌, refl, sym, ap, ap₂, subst, arith, cond, min, inl, inr, true≢false}
use Rattle.std.specs.Prelude.{◌⊎◌, nat_eq}
use Rattle.std.specs.Str.{bytes_eq}
use Rattle.std.proofs.lemmas.Bool.{and_parts, eqb-true}
use Rattle.std.proofs.lemmas.List.Sums.{sum_by-append, sum_by-cons}
use Rattle.io_edge.specs.Causes.{Rose, last_count}
use Rattle.request_machine.specs.Machine.{file_line, memory_line, noise_line}
use Rattle.wpinq_program.specs.Faults.{RoseBy, count_of}

rose_at_least : (n before now last : ℕ) → before + n ≤ now → min (before + n) last ≤ now
rose_at_least n before now last h = omega (arith, h)

-- equal bytes
same_bytes : (xs ys : List ℕ) → bytes_eq xs ys ≡ true → xs ≡ ys
same_bytes [] [] e = refl
same_bytes [] (y ∷ ys) e = absurd (true≢false (sym e))
same_bytes (x ∷ xs) [] e = absurd (true≢false (sym e))
same_bytes (x ∷ xs) (y ∷ ys) e =
    let parts = and_parts (nat_eq x y) (bytes_eq xs ys) e in
    ap₂ (λ z zs. z ∷ zs) (eqb-true x y parts.0) (same_bytes xs ys parts.1)

-- none of no replies is licensed
pub RoseBy-later : (before now : ℕ) → before ≤ now → RoseBy 0 before now
RoseBy-later before now later = rose_at_least 0 before now last_count (omega (arith, later))

rose_over : (n m a b c last : ℕ) → min (a + n) last ≤ b → min (b + m) last ≤ c → min (a + (n + m)) last ≤ c
rose_over n m a b c last h k = omega (arith, h, k)

rose_once : (before now last : ℕ) → (before < now) ⊎ (now ≡ last) → min (before + 1) last ≤ now
rose_once before now last (inl rose) = omega (arith, rose)
rose_once before now last (inr stands) = omega (arith, stands)

-- ---- of replies that are this line

module _ (line : List ℕ) where
  pub RoseBy-none : (count : ℕ) → RoseBy (count_of line []) count count
  RoseBy-none count = RoseBy-later count count (omega arith)

  -- two rises one after another
  pub RoseBy-append : (a b c : ℕ) (first second : List (List ℕ)) → RoseBy (count_of line first) a b → RoseBy (count_of line second) b c
      → RoseBy (count_of line (first ++ second)) a c
  RoseBy-append a b c first second h k =
      subst (λ n. RoseBy n a c) (sym (sum_by-append (λ reply. cond (bytes_eq reply line) 1 0) first second))
      (rose_over (count_of line first) (count_of line second) a b c last_count h k)

  one_counted : (reply : List ℕ) (b : Bool) → bytes_eq reply line ≡ b → count_of line (reply ∷ []) ≡ cond b 1 0
  one_counted reply true is = rw (sum_by-cons (λ r. cond (bytes_eq r line) 1 0) reply [], is) refl
  one_counted reply false is = rw (sum_by-cons (λ r. cond (bytes_eq r line) 1 0) reply [], is) refl

  -- one reply, where it is licensed if it is this line
  pub RoseBy-one : (reply : List ℕ) (before now : ℕ) → before ≤ now → (reply ≡ line → Rose before now) → RoseBy (count_of line (reply ∷ [])) before now
  RoseBy-one reply before now later licensed = either (bytes_eq reply line) refl
    where
      either : (b : Bool) → bytes_eq reply line ≡ b → RoseBy (count_of line (reply ∷ [])) before now
      either true is = subst (λ n. RoseBy n before now) (sym (one_counted reply true is)) (rose_once before now last_count (licensed (same_bytes reply line is)))
      either false is = subst (λ n. RoseBy n before now) (sym (one_counted reply false is)) (RoseBy-later before now later)

-- the line for want of memory is no refusal for a device
pub memory_not_noise : {X : Type 0} → memory_line ≡ noise_line → X
memory_not_noise is = absurd (true≢false (sym (ap (λ reply. bytes_eq reply noise_line) is)))

pub memory_not_file : {X : Type 0} → memory_line ≡ file_line → X
memory_not_file is = absurd (true≢false (sym (ap (λ reply. bytes_eq reply file_line) is)))
