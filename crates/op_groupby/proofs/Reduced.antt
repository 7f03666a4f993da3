-- A reducer takes up rows in any order alike, and what it has taken up of all rows gives their atom.
use Rattle.std.specs.Prelude.{◌≡◌, ℕ, ℤ, ◌+ℤ◌, pos, Bool, true, false, cond, fold, length, List, [], ◌∷◌, map, Option, Some, None, refl}
use Rattle.std.specs.Option.{unwrap_or}
use Rattle.std.specs.Ordering.{is_lt, ordering_reverse}
use Rattle.std.specs.declared.cmp.Ordering.{Ordering}
use Rattle.std.specs.declared.cmp.Ordering.TheVariants.{Less, Equal, Greater}
use Rattle.std.proofs.Common.{arith, sym, ap, ◌∙◌, true≢false}
use Rattle.std.proofs.lemmas.Int.{ints}
use Rattle.record_text.specs.Order.{atom_cmp}
use Rattle.record_text.specs.OrderLaws.{atom_total, atom_tie}
use Rattle.record_text.specs.declared.atom.Atom.{Atom}
use Rattle.record_text.specs.declared.atom.Atom.TheVariants.{Int}
use Rattle.datasets.specs.Entries.{Row}
use Rattle.prim_table.specs.Primitives.{clamped}
use Rattle.plan_model.specs.Evaluation.{column, number_in, reduced_to}
use Rattle.plan_model.specs.declared.step.Reducer.{Reducer}
use Rattle.op_groupby.specs.Taking.{TakenRows, answer, greater, lesser, none_taken, with_taken}

-- ---- the one of two that comes first
module _ (first : Atom → Atom → Bool) (one_way : (a b : Atom) → first a b ≡ true → first b a ≡ false)
    (chain : (a b c : Atom) → first a b ≡ true → first b c ≡ true → first a c ≡ true) (ties : (a b : Atom) → first a b ≡ false → first b a ≡ false → a ≡ b) where
  abbrev pick : Atom → Atom → Atom
  pick b c = cond (first c b) c b

  pick_turned : (a b : Atom) → pick a b ≡ pick b a
  pick_turned a b = split (first b a) (first a b) refl refl
    where
      split : (p q : Bool) → first b a ≡ p → first a b ≡ q → cond (first b a) b a ≡ cond (first a b) a b
      split true q e f = ap (λ x. cond x b a) e ∙ sym (ap (λ x. cond x a b) (one_way b a e))
      split false true e f = ap (λ x. cond x b a) e ∙ sym (ap (λ x. cond x a b) f)
      split false false e f = ap (λ x. cond x b a) e ∙ ties a b f e ∙ sym (ap (λ x. cond x a b) f)

  pub pick_alike : (c a b : Atom) → pick (pick c a) b ≡ pick (pick c b) a
  pick_alike c a b = split (first a c) (first b c) refl refl
    where
      -- a comes before c and b doesn't
      lone : (a b : Atom) → first a c ≡ true → first b c ≡ false → pick a b ≡ a
      lone a b e f = no (first b a) refl
        where
          no : (p : Bool) → first b a ≡ p → cond (first b a) b a ≡ a
          no true g = absurd (true≢false (sym (chain b a c g e) ∙ f))
          no false g = ap (λ x. cond x b a) g

      split : (p q : Bool) → first a c ≡ p → first b c ≡ q → pick (cond (first a c) a c) b ≡ pick (cond (first b c) b c) a
      split true true e f = ap (λ x. pick (cond x a c) b) e ∙ pick_turned a b ∙ sym (ap (λ x. pick (cond x b c) a) f)
      split true false e f = ap (λ x. pick (cond x a c) b) e ∙ lone a b e f ∙ sym (ap (λ x. pick (cond x b c) a) f ∙ ap (λ x. cond x a c) e)
      split false true e f = ap (λ x. pick (cond x a c) b) e ∙ ap (λ x. cond x b c) f ∙ sym (ap (λ x. pick (cond x b c) a) f ∙ lone b a f e)
      split false false e f = ap (λ x. pick (cond x a c) b) e ∙ ap (λ x. cond x b c) f ∙ sym (ap (λ x. pick (cond x b c) a) f ∙ ap (λ x. cond x a c) e)

-- ---- the order of atoms
less_is : (o : Ordering) → is_lt o ≡ true → o ≡ Less
less_is Less e = refl
less_is Equal e = absurd (true≢false (sym e))
less_is Greater e = absurd (true≢false (sym e))

below : Atom → Atom → Bool
below a b = is_lt (atom_cmp a b)

below_one_way : (a b : Atom) → is_lt (atom_cmp a b) ≡ true → is_lt (atom_cmp b a) ≡ false
below_one_way a b e = ap is_lt (atom_total.antisymm b a ∙ ap ordering_reverse (less_is (atom_cmp a b) e))

below_chain : (a b c : Atom) → is_lt (atom_cmp a b) ≡ true → is_lt (atom_cmp b c) ≡ true → is_lt (atom_cmp a c) ≡ true
below_chain a b c e f = ap is_lt (atom_total.trans a b c (less_is (atom_cmp a b) e) (less_is (atom_cmp b c) f))

below_ties : (a b : Atom) → is_lt (atom_cmp a b) ≡ false → is_lt (atom_cmp b a) ≡ false → a ≡ b
below_ties a b e f = split (atom_cmp a b) refl
  where
    split : (o : Ordering) → atom_cmp a b ≡ o → a ≡ b
    split Less p = absurd (true≢false (sym (ap is_lt p) ∙ e))
    split Equal p = atom_tie a b p
    split Greater p = absurd (true≢false (sym (ap is_lt (atom_total.antisymm b a ∙ ap ordering_reverse p)) ∙ f))

lesser_alike : (o : Option Atom) (a b : Atom) → lesser (Some (lesser o a)) b ≡ lesser (Some (lesser o b)) a
lesser_alike None a b = pick_turned (λ a b. is_lt (atom_cmp a b)) below_one_way below_chain below_ties a b
lesser_alike (Some c) a b = pick_alike (λ a b. is_lt (atom_cmp a b)) below_one_way below_chain below_ties c a b

greater_alike : (o : Option Atom) (a b : Atom) → greater (Some (greater o a)) b ≡ greater (Some (greater o b)) a
greater_alike None a b = pick_turned (λ a b. is_lt (atom_cmp b a)) (λ a b. below_one_way b a) (λ a b c e f. below_chain c b a f e) (λ a b e f. below_ties a b f e) a b
greater_alike (Some c) a b = pick_alike (λ a b. is_lt (atom_cmp b a)) (λ a b. below_one_way b a) (λ a b c e f. below_chain c b a f e) (λ a b e f. below_ties a b f e) c a b

-- ---- rows in any order
added_alike : (n a b : ℤ) → (n +ℤ a) +ℤ b ≡ (n +ℤ b) +ℤ a
added_alike n a b = omega (arith, ints)

-- the same with another best, and with another number
abbrev with_best : TakenRows → Atom → TakenRows
with_best s a = record { number = s.number; best = Some a }

abbrev with_number : TakenRows → ℤ → TakenRows
with_number s n = record { number = n; best = s.best }

pub taken_alike : (reduce : Reducer) (s : TakenRows) (x y : Row) → with_taken reduce (with_taken reduce s x) y ≡ with_taken reduce (with_taken reduce s y) x
taken_alike Reducer.Count s x y = refl
taken_alike (Reducer.Min c) s x y = ap (λ (a : Atom). with_best s a) (lesser_alike s.best (column c x) (column c y))
taken_alike (Reducer.Max c) s x y = ap (λ (a : Atom). with_best s a) (greater_alike s.best (column c x) (column c y))
taken_alike (Reducer.Sum c) s x y = ap (λ (n : ℤ). with_number s n) (added_alike s.number (number_in (column c x)) (number_in (column c y)))

-- ---- all rows
counted : (s : TakenRows) (xs : List Row) → (fold (with_taken Reducer.Count) s xs).number ≡ s.number +ℤ pos (length xs)
counted s [] = omega (arith, ints)
counted s (x ∷ xs) = let h = counted (with_taken Reducer.Count s x) xs in omega (arith, ints)

summed : (c : ℕ) (s : TakenRows) (xs : List Row) → (fold (with_taken (Reducer.Sum c)) s xs).number ≡ fold (λ sum a. sum +ℤ number_in a) s.number (map (column c) xs)
summed c s [] = refl
summed c s (x ∷ xs) = summed c (with_taken (Reducer.Sum c) s x) xs

least_of : (c : ℕ) (s : TakenRows) (b : Atom) (xs : List Row) → s.best ≡ Some b → (fold (with_taken (Reducer.Min c)) s xs).best ≡ Some (fold (λ b a. cond (is_lt (atom_cmp a b)) a b) b (map (column c) xs))
least_of c s b [] e = e
least_of c s b (x ∷ xs) e = least_of c (with_taken (Reducer.Min c) s x) (lesser (Some b) (column c x)) xs (ap (λ o. Some (lesser o (column c x))) e)

greatest_of : (c : ℕ) (s : TakenRows) (b : Atom) (xs : List Row) → s.best ≡ Some b → (fold (with_taken (Reducer.Max c)) s xs).best ≡ Some (fold (λ b a. cond (is_lt (atom_cmp b a)) a b) b (map (column c) xs))
greatest_of c s b [] e = e
greatest_of c s b (x ∷ xs) e = greatest_of c (with_taken (Reducer.Max c) s x) (greater (Some b) (column c x)) xs (ap (λ o. Some (greater o (column c x))) e)

plain : (n : ℕ) → pos 0 +ℤ pos n ≡ pos n
plain n = omega (arith, ints)

pub taken_all : (reduce : Reducer) (xs : List Row) → reduced_to reduce xs ≡ answer reduce (fold (with_taken reduce) none_taken xs)
taken_all Reducer.Count xs = ap (λ n. Int (clamped n)) (sym (counted none_taken xs ∙ plain (length xs)))
taken_all (Reducer.Sum c) xs = ap (λ n. Int (clamped n)) (sym (summed c none_taken xs))
taken_all (Reducer.Min c) [] = refl
taken_all (Reducer.Min c) (x ∷ xs) = sym (ap (λ o. unwrap_or o (Int (pos 0))) (least_of c (with_taken (Reducer.Min c) none_taken x) (column c x) xs refl))
taken_all (Reducer.Max c) [] = refl
taken_all (Reducer.Max c) (x ∷ xs) = sym (ap (λ o. unwrap_or o (Int (pos 0))) (greatest_of c (with_taken (Reducer.Max c) none_taken x) (column c x) xs refl))
