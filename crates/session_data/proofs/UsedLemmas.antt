-- How often a plan uses its sources, and what is asked of them.
use Rattle.std.proofs.Common.{◌≡◌, ◌<◌, ◌≤◌, ℕ, zero, suc, ◌+◌, ◌*◌, List, [], ◌∷◌, ◌++◌, true, false, refl, sym, ap, ap₂, subst, ◌∙◌, arith, cond, length, length-append, map, nat_lt, append-nil}
use Rattle.std.specs.Prelude.{All}
use Rattle.std.specs.List.{AllByRecursion, range_with_len}
use Rattle.std.proofs.lemmas.List.{append_assoc, map-append}
use Rattle.std.proofs.lemmas.List.Elements.{All-cons, All-from_get_or, All-head, All-map, All-nil, All-tail, All-weaker}
use Rattle.std.proofs.lemmas.List.FromFn.{get_or-map-range_with_len, length-map-range_with_len}
use Rattle.std.proofs.lemmas.Nat.{mul-le}
use Rattle.budget_book.specs.Asks.{AreAsks, AreAsksFrom}
use Rattle.budget_book.specs.declared.ask.Ask.{Ask}
use Rattle.plan_model.specs.Acceptance.{Accepts, knows_source, max_uses}
use Rattle.plan_model.specs.Evaluation.{last_or, step_by_step}
use Rattle.plan_model.specs.Uses.{uses, uses_of_steps, uses_step}
use Rattle.plan_model.specs.declared.source_types.SourceType.{SourceType}
use Rattle.plan_model.specs.declared.step.Step.{Step}
use Rattle.plan_model.proofs.AcceptedLater.{known-accepted, none_of_new}
use Rattle.plan_model.proofs.Extended.{AllByRecursion-snoc, step_by_step-agree, uses-agree}
use Rattle.plan_model.proofs.StepByStep.{step_by_step_after-snoc}
use Rattle.plan_model.proofs.StepLaws.{accepted_uses_are_few}
use Rattle.plan_checker.proofs.Members.{last_or-snoc}
use Rattle.request_machine.specs.Charges.{ask_of, asks_from, at_epsilon, charges_of, counts_of, uses_of}

map-agree : {X Y : Type 0} (f g : X → Y) → ((x : X) → f x ≡ g x) → (xs : List X) → map f xs ≡ map g xs
map-agree f g same [] = refl
map-agree f g same (x ∷ xs) = ap₂ (λ y ys. y ∷ ys) (same x) (map-agree f g same xs)

range_with_len-snoc : (a n : ℕ) → range_with_len a (suc n) ≡ range_with_len a n ++ (a + n) ∷ []
range_with_len-snoc a zero = let e : a ≡ a + zero = omega arith in ap (λ k. k ∷ []) e
range_with_len-snoc a (suc n) =
    let e : a + 1 + n ≡ a + suc n = omega arith in
    ap (λ ks. a ∷ ks) (range_with_len-snoc (a + 1) n ∙ ap (λ k. range_with_len (a + 1) n ++ k ∷ []) e)

-- ---- one source more

-- a source that isn't used is asked for nothing
asks_from-unused : (place : ℕ) (counts : List ℕ) → asks_from place (counts ++ 0 ∷ []) ≡ asks_from place counts
asks_from-unused place [] = refl
asks_from-unused place (n ∷ counts) =
    let rest = asks_from-unused (place + 1) counts in
    elim (nat_lt 0 n) as (λ b. cond b (ask_of place n ∷ asks_from (place + 1) (counts ++ 0 ∷ [])) (asks_from (place + 1) (counts ++ 0 ∷ []))
    ≡ cond b (ask_of place n ∷ asks_from (place + 1) counts) (asks_from (place + 1) counts)) [
      | true ↦ ap (λ (asks : List Ask). ask_of place n ∷ asks) rest
      | false ↦ rest
    ]

module _ (types : List SourceType) (t : SourceType) where
  abbrev more : List SourceType
  more = types ++ t ∷ []

  abbrev IsKnown : Step → Type 0
  IsKnown s = knows_source types s ≡ true

  -- the steps use the sources as before
  uses-same : (plan : List Step) → AllByRecursion IsKnown plan → (s : ℕ) → uses plan more s ≡ uses plan types s
  uses-same plan known s =
      ap (last_or 0) (step_by_step-agree (uses_step more s) (uses_step types s) IsKnown (uses-agree types t s) [] plan known)

  -- and the new one not at all
  unused-after : (before plan : List Step) → AllByRecursion IsKnown before → AllByRecursion IsKnown plan → last_or 0 (uses_of_steps before types (length types)) ≡ 0
      → last_or 0 (uses_of_steps (before ++ plan) types (length types)) ≡ 0
  unused-after before [] known rest none = ap (λ p. last_or 0 (uses_of_steps p types (length types))) (append-nil before) ∙ none
  unused-after before (s ∷ plan) known rest none =
      let f = uses_step types (length types) in
      ap (λ p. last_or 0 (uses_of_steps p types (length types))) (sym (append_assoc before (s ∷ []) plan))
      ∙ unused-after (before ++ s ∷ []) plan (AllByRecursion-snoc IsKnown before s known rest.0) rest.1
      (ap (last_or 0) (step_by_step_after-snoc f [] before s) ∙ last_or-snoc 0 (step_by_step f before) (f s (step_by_step f before)) ∙ none_of_new types before s known rest.0)

  counts-more : (plan : List Step) → AllByRecursion IsKnown plan → counts_of plan more ≡ counts_of plan types ++ 0 ∷ []
  counts-more plan known =
      let n = length types in
      let count : length more ≡ suc n = omega (arith, length-append types (t ∷ [])) in
      let zero_n : 0 + n ≡ n = omega arith in
      map-agree (uses plan more) (uses plan types) (uses-same plan known) (range_with_len 0 (length more))
      ∙ ap (λ k. map (uses plan types) (range_with_len 0 k)) count
      ∙ ap (map (uses plan types)) (range_with_len-snoc 0 n ∙ ap (λ k. range_with_len 0 n ++ k ∷ []) zero_n)
      ∙ map-append (uses plan types) (range_with_len 0 n) (n ∷ [])
      ∙ ap (λ k. counts_of plan types ++ k ∷ []) (unused-after [] plan tt known refl)

  -- so a plan uses the same sources as before
  pub uses_of-more : (plan : List Step) → Accepts plan types → uses_of plan more ≡ uses_of plan types
  uses_of-more plan accepted =
      ap (asks_from 0) (counts-more plan (known-accepted types t plan accepted)) ∙ asks_from-unused 0 (counts_of plan types)

-- ---- limits

few_asked : (place : ℕ) (counts : List ℕ) → All (λ n. n ≤ max_uses) counts → All (λ (ask : Ask). ask.amount ≤ max_uses) (asks_from place counts)
few_asked place [] few = All-nil (λ (ask : Ask). ask.amount ≤ max_uses)
few_asked place (n ∷ counts) few =
    let P : Ask → Type 0 = λ ask. ask.amount ≤ max_uses in
    let rest = few_asked (place + 1) counts (All-tail (λ m. m ≤ max_uses) n counts few) in
    let here = All-head (λ m. m ≤ max_uses) n counts few in
    elim (nat_lt 0 n) as (λ b. All P (cond b (ask_of place n ∷ asks_from (place + 1) counts) (asks_from (place + 1) counts))) [
      | true ↦ All-cons P (ask_of place n) (asks_from (place + 1) counts) here rest
      | false ↦ rest
    ]

scaled_within : (epsilon n : ℕ) → epsilon ≤ 1000000000 → n ≤ 1000000 → epsilon * n ≤ 1000000000000000
scaled_within epsilon n small few = mul-le epsilon n 1000000000 1000000 small few

asks-later : (lowest place count : ℕ) (counts : List ℕ) → lowest ≤ place → place + length counts ≡ count → All (λ n. n ≤ max_uses) counts
    → AreAsksFrom lowest count (asks_from place counts)
asks-later lowest place count [] low size few = tt
asks-later lowest place count (n ∷ counts) low size few =
    let rest = All-tail (λ m. m ≤ max_uses) n counts few in
    let here = All-head (λ m. m ≤ max_uses) n counts few in
    let within : n ≤ 1000000000000000 = omega (arith, here) in
    let end : (place + 1) + length counts ≡ count = omega (arith, size) in
    let inside : place < count = omega (arith, size) in
    elim (nat_lt 0 n) as (λ b. AreAsksFrom lowest count (cond b (ask_of place n ∷ asks_from (place + 1) counts) (asks_from (place + 1) counts))) [
      | true ↦ (low, inside, within, asks-later (place + 1) (place + 1) count counts (omega arith) end rest)
      | false ↦ asks-later lowest (place + 1) count counts (omega (arith, low)) end rest
    ]

-- asks that are scaled by an epsilon
scaled-asked : (epsilon lowest count : ℕ) (asks : List Ask) → epsilon ≤ 1000000000 → All (λ (ask : Ask). ask.amount ≤ max_uses) asks → AreAsksFrom lowest count asks
    → AreAsksFrom lowest count (map (at_epsilon epsilon) asks)
scaled-asked epsilon lowest count [] small few asked = tt
scaled-asked epsilon lowest count (ask ∷ asks) small few asked = (
  asked.0,
  asked.1,
  scaled_within epsilon ask.amount small (All-head (λ (a : Ask). a.amount ≤ max_uses) ask asks few),
  scaled-asked epsilon (ask.source + 1) count asks small (All-tail (λ (a : Ask). a.amount ≤ max_uses) ask asks few) asked.3,
)

counts_few : (plan : List Step) (types : List SourceType) → Accepts plan types → All (λ n. n ≤ max_uses) (counts_of plan types)
counts_few plan types accepted =
    let n = length types in
    All-from_get_or (λ m. m ≤ max_uses) (counts_of plan types) 0
    (λ i lt. let below : i < n = omega (arith, lt, length-map-range_with_len (uses plan types) 0 n) in
    subst (λ m. m ≤ max_uses) (sym (get_or-map-range_with_len (uses plan types) 0 n i i 0 below (omega arith))) (accepted_uses_are_few plan types i accepted below).0)

-- an accepted plan uses no source more often than it may
pub few_uses : (plan : List Step) (types : List SourceType) → Accepts plan types → All (λ (ask : Ask). ask.amount ≤ max_uses) (uses_of plan types)
few_uses plan types accepted = few_asked 0 (counts_of plan types) (counts_few plan types accepted)

-- what it uses may be asked for
pub uses-asked : (plan : List Step) (types : List SourceType) → Accepts plan types → AreAsks (length types) (uses_of plan types)
uses-asked plan types accepted =
    asks-later 0 0 (length types) (counts_of plan types) (omega arith)
    (let size = length-map-range_with_len (uses plan types) 0 (length types) in omega (arith, size)) (counts_few plan types accepted)

-- and so may what is asked for a measurement
pub charges-asked : (epsilon : ℕ) (plan : List Step) (types : List SourceType) → epsilon ≤ 1000000000 → Accepts plan types → AreAsks (length types) (charges_of epsilon plan types)
charges-asked epsilon plan types small accepted =
    scaled-asked epsilon 0 (length types) (uses_of plan types) small (few_uses plan types accepted) (uses-asked plan types accepted)

-- ---- one ask more

pub asks_from-more : (place : ℕ) (counts : List ℕ) (n : ℕ)
    → asks_from place (counts ++ n ∷ []) ≡ asks_from place counts ++ cond (nat_lt 0 n) (ask_of (place + length counts) n ∷ []) []
asks_from-more place [] n =
    let here : place ≡ place + 0 = omega arith in
    ap (λ at. cond (nat_lt 0 n) (ask_of at n ∷ []) []) here
asks_from-more place (m ∷ counts) n =
    let later : (place + 1) + length counts ≡ place + length (m ∷ counts) = omega arith in
    let last : ℕ → List Ask = λ at. cond (nat_lt 0 n) (ask_of at n ∷ []) [] in
    let rest = asks_from-more (place + 1) counts n ∙ ap (λ at. asks_from (place + 1) counts ++ last at) later in
    elim (nat_lt 0 m) as (λ b. cond b (ask_of place m ∷ asks_from (place + 1) (counts ++ n ∷ [])) (asks_from (place + 1) (counts ++ n ∷ []))
    ≡ cond b (ask_of place m ∷ asks_from (place + 1) counts) (asks_from (place + 1) counts) ++ last (place + length (m ∷ counts))) [
      | true ↦ ap (λ (asks : List Ask). ask_of place m ∷ asks) rest
      | false ↦ rest
    ]
