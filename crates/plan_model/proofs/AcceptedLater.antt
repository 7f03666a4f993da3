-- A plan that is accepted stays so when one source more is declared.
use Rattle.std.proofs.Common.{◌≡◌, ◌<◌, ℕ, zero, suc, ◌+◌, List, [], ◌∷◌, ◌++◌, Bool, true, false, not, ◌&&◌, ◌||◌, refl, sym, ap, ap₂, ◌∙◌, arith, rules, true≢false, length, nat_le, nat_eq, length-append, map, sum, Option, Some, None, if◌then◌else◌}
use Rattle.std.specs.List.{AllByRecursion, list_any, position_or_len, range_with_len}
use Rattle.std.proofs.lemmas.List.{map-append}
use Rattle.std.proofs.lemmas.List.Folds.{list_all-append, list_any-append}
use Rattle.std.proofs.lemmas.List.Sums.{sum_by-cons}
use Rattle.record_text.specs.Names.{name_eq}
use Rattle.plan_model.specs.declared.plan.What.{What}
use Rattle.plan_model.specs.declared.source_types.SourceType.{SourceType}
use Rattle.plan_model.specs.declared.step.Step.{Step}
use Rattle.plan_model.specs.Acceptance.{Accepts, are_few, fault_after, fault_of_step, fault_or, is_narrow, knows_source, max_uses, may_group, step_has_columns, step_has_kinds, takes_sign}
use Rattle.plan_model.specs.Evaluation.{step_by_step_after}
use Rattle.plan_model.specs.Inputs.{inputs}
use Rattle.plan_model.specs.Sizes.{max_width}
use Rattle.plan_model.specs.Sources.{has_name, place_of}
use Rattle.plan_model.specs.Types.{columns, columns_step, sign_step, signs}
use Rattle.plan_model.specs.Uses.{count_at, counts_of_step, is_place, uses_of_steps, uses_step}
use Rattle.plan_model.proofs.Accepted.{PassesAfter, Passes-fault_after}
use Rattle.plan_model.proofs.Extended.{AllByRecursion-snoc, columns-agree, has_columns-agree, has_kinds-agree, left_sign-agree, place-known, signs-agree, step_by_step-agree, uses-agree}

-- ---- small parts

check_passes : (check : Bool) (what : What) (next : Option What) → check ≡ true → next ≡ None → (if not check then Some what else next) ≡ None
check_passes true what next e none = none
check_passes false what next e none = absurd (true≢false (sym e))

map-agree : {X Y : Type 0} (f g : X → Y) → ((x : X) → f x ≡ g x) → (xs : List X) → map f xs ≡ map g xs
map-agree f g same [] = refl
map-agree f g same (x ∷ xs) = ap₂ (λ y ys. y ∷ ys) (same x) (map-agree f g same xs)

range_with_len-snoc : (a n : ℕ) → range_with_len a (suc n) ≡ range_with_len a n ++ (a + n) ∷ []
range_with_len-snoc a zero = let e : a ≡ a + zero = omega arith in ap (λ k. k ∷ []) e
range_with_len-snoc a (suc n) =
    let e : a + 1 + n ≡ a + suc n = omega arith in
    ap (λ ks. a ∷ ks) (range_with_len-snoc (a + 1) n ∙ ap (λ k. range_with_len (a + 1) n ++ k ∷ []) e)

nat_eq-below : (i n : ℕ) → i < n → nat_eq i n ≡ false
nat_eq-below i n lt = grind (arith, rules)

AllZero : List ℕ → Type 0
AllZero ns = (i : ℕ) → count_at ns i ≡ 0

module _ (types : List SourceType) (t : SourceType) where
  abbrev more : List SourceType
  more = types ++ t ∷ []

  abbrev Known : Step → Type 0
  Known s = knows_source types s ≡ true

  knows-more : (s : Step) → Known s → knows_source more s ≡ true
  knows-more (Step.Source name) e = list_any-append (λ u. name_eq name u.name) types (t ∷ []) ∙ ap (λ b. b || list_any (λ u. name_eq name u.name) (t ∷ [])) e
  knows-more s e = refl

  module _ (before : List Step) (known : AllByRecursion Known before) where
    pub columns-extended : columns before more ≡ columns before types
    columns-extended = step_by_step-agree (columns_step more) (columns_step types) Known (columns-agree types t) [] before known

    signs-extended : signs before more ≡ signs before types
    signs-extended = step_by_step-agree (sign_step more) (sign_step types) Known (signs-agree types t) [] before known

    uses-extended : (source : ℕ) → uses_of_steps before more source ≡ uses_of_steps before types source
    uses-extended source = step_by_step-agree (uses_step more source) (uses_step types source) Known (uses-agree types t source) [] before known

-- ---- the new source isn't used

module _ (types : List SourceType) where
  abbrev IsKnown : Step → Type 0
  IsKnown s = knows_source types s ≡ true

  not_placed : (name : List ℕ) → has_name types name ≡ true → is_place (length types) (place_of name types) ≡ false
  not_placed name e =
      let k = place-known (λ u. name_eq name u.name) [] types e in
      ap (is_place (length types)) k.1 ∙ nat_eq-below (position_or_len (λ u. name_eq name u.name) types) (length types) k.2

  sum_none : (is ns : List ℕ) → AllZero ns → sum (map (count_at ns) is) ≡ 0
  unfolding AllZero
  sum_none [] ns zeros = refl
  sum_none (i ∷ is) ns zeros = sum_by-cons (λ n. n) (count_at ns i) (map (count_at ns) is) ∙ ap₂ (λ a b. a + b) (zeros i) (sum_none is ns zeros)

  uses_none : (s : Step) (ns : List ℕ) → IsKnown s → AllZero ns → uses_step types (length types) s ns ≡ 0
  uses_none (Step.Source name) ns e zeros = ap (λ b. if b then 1 else 0) (not_placed name e)
  uses_none s ns e zeros = sum_none (inputs s) ns zeros

  AllZero-snoc : (ns : List ℕ) (n : ℕ) → AllZero ns → n ≡ 0 → AllZero (ns ++ n ∷ [])
  unfolding AllZero
  AllZero-snoc [] n zeros e zero = e
  AllZero-snoc [] n zeros e (suc i) = refl
  AllZero-snoc (m ∷ ns) n zeros e zero = zeros zero
  AllZero-snoc (m ∷ ns) n zeros e (suc i) = AllZero-snoc ns n (λ j. zeros (suc j)) e i

  AllZero-after : (made : List ℕ) (ss : List Step) → AllZero made → AllByRecursion IsKnown ss → AllZero (step_by_step_after (uses_step types (length types)) made ss)
  AllZero-after made [] zeros known = zeros
  AllZero-after made (s ∷ ss) zeros known =
      let n = uses_step types (length types) s made in
      AllZero-after (made ++ n ∷ []) ss (AllZero-snoc made n zeros (uses_none s made known.0 zeros)) known.1

  AllZero-none : AllZero []
  unfolding AllZero
  AllZero-none i = refl

  pub none_of_new : (before : List Step) (s : Step) → AllByRecursion IsKnown before → IsKnown s → uses_step types (length types) s (uses_of_steps before types (length types)) ≡ 0
  none_of_new before s known e = uses_none s (uses_of_steps before types (length types)) e (AllZero-after [] before AllZero-none known)

-- ---- acceptance

module _ (types : List SourceType) (t : SourceType) where
  abbrev extended : List SourceType
  extended = types ++ t ∷ []

  abbrev IsStep : Step → Type 0
  IsStep s = knows_source types s ≡ true

  -- a known step uses the sources as before, and the new one not at all
  counts-extended : (before : List Step) (s : Step) → AllByRecursion IsStep before → IsStep s → counts_of_step extended before s ≡ counts_of_step types before s ++ 0 ∷ []
  counts-extended before s known e =
      let n = length types in
      let count : length extended ≡ suc n = omega (arith, length-append types (t ∷ [])) in
      let zero_n : 0 + n ≡ n = omega arith in
      let uses : ℕ → ℕ = λ source. uses_step types source s (uses_of_steps before types source) in
      map-agree (λ source. uses_step extended source s (uses_of_steps before extended source)) uses
      (λ source. uses-agree types t source s (uses_of_steps before extended source) e ∙ ap (uses_step types source s) (uses-extended types t before known source)) (range_with_len 0 (length extended))
      ∙ ap (λ k. map uses (range_with_len 0 k)) count
      ∙ ap (map uses) (range_with_len-snoc 0 n ∙ ap (λ k. range_with_len 0 n ++ k ∷ []) zero_n)
      ∙ map-append uses (range_with_len 0 n) (n ∷ [])
      ∙ ap (λ k. counts_of_step types before s ++ k ∷ []) (none_of_new types before s known e)

  few-extended : (before : List Step) (s : Step) → AllByRecursion IsStep before → IsStep s → are_few (counts_of_step types before s) ≡ true → are_few (counts_of_step extended before s) ≡ true
  few-extended before s known e few =
      ap are_few (counts-extended before s known e)
      ∙ list_all-append (λ n. nat_le n max_uses) (counts_of_step types before s) (0 ∷ [])
      ∙ ap (λ a. a && true) few

  step-extended : (before : List Step) (s : Step) → AllByRecursion IsStep before → PassesAfter types before s → fault_of_step extended before s ≡ None
  step-extended before s known p =
      let e = p.known_source in
      let cs = columns-extended types t before known in
      let bs = signs-extended types t before known in
      let old = columns before types in
      check_passes (knows_source extended s) _ _ (knows-more types t s e)
      (check_passes (step_has_columns extended s (columns before extended)) _ _ (ap (step_has_columns extended s) cs ∙ has_columns-agree types t s old e ∙ p.within_width)
      (check_passes (step_has_kinds extended s (columns before extended)) _ _ (ap (step_has_kinds extended s) cs ∙ has_kinds-agree types t s old e ∙ p.right_kinds)
      (check_passes (is_narrow extended s (columns before extended)) _ _ (ap (is_narrow extended s) cs ∙ ap (λ cols. nat_le (length cols) max_width) (columns-agree types t s old e) ∙ p.narrow)
      (check_passes (may_group extended s (signs before extended)) _ _ (ap (may_group extended s) bs ∙ ap (takes_sign s) (left_sign-agree types t s (signs before types) e) ∙ p.not_negative)
      (check_passes (are_few (counts_of_step extended before s)) _ None (few-extended before s known e p.few_uses) refl)))))

  fault-extended : (before ss : List Step) → AllByRecursion IsStep before → fault_after types before ss ≡ None → fault_after extended before ss ≡ None
  fault-extended before [] known none = refl
  fault-extended before (s ∷ ss) known none =
      let p = Passes-fault_after types before s ss none in
      ap₂ (λ fault next. fault_or (length before) fault next) (step-extended before s known p.0)
      (fault-extended (before ++ s ∷ []) ss (AllByRecursion-snoc IsStep before s known p.0.known_source) p.1)

  pub Accepts-extended : (p : List Step) → Accepts p types → Accepts p extended
  Accepts-extended p accepts = fault-extended [] p tt accepts

  known-after : (before ss : List Step) → fault_after types before ss ≡ None → AllByRecursion IsStep ss
  known-after before [] none = tt
  known-after before (s ∷ ss) none =
      let p = Passes-fault_after types before s ss none in (p.0.known_source, known-after (before ++ s ∷ []) ss p.1)

  -- an accepted plan names sources that are there
  pub known-accepted : (p : List Step) → Accepts p types → AllByRecursion IsStep p
  known-accepted p accepts = known-after [] p accepts
