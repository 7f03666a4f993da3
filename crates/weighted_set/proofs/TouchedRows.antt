-- Tables by row as one entry changes: what holds of all rows but the touched ones.
use Rattle.std.specs.Prelude.{ℕ, ◌≡◌, Bool, true, false, cond, ◌||◌, IfSome, List, [], ◌∷◌, ◌++◌, Option, None, refl}
use Rattle.std.specs.Map.{lookup}
use Rattle.std.proofs.Common.{sym, ap, subst, ◌∙◌, true≢false, length, length-append, arith}
use Rattle.std.proofs.lemmas.List.Folds.{list_any-append}
use Rattle.datasets.specs.Entries.{Row, has_row, same_row}
use Rattle.datasets.proofs.Rows.{same_row-equal, same_row-itself, same_row-turned}
use Rattle.weighted_set.specs.Tables.{AllBut, FindsAt, GivesBack, OthersStay}

-- ---- the touched rows
none_of_both : (a b : Bool) → (a || (b || false)) ≡ false → (a ≡ false) × (b ≡ false)
none_of_both true b h = absurd (true≢false h)
none_of_both false true h = absurd (true≢false h)
none_of_both false false h = (refl, refl)

both_not : (a b : Bool) → a ≡ false → b ≡ false → (a || (b || false)) ≡ false
both_not a b h k = ap (λ c. c || (b || false)) h ∙ ap (λ c. c || false) k

-- a row that is none of these is not the last of them, nor one of the others
pub apart_from_all : (ts : List Row) (x y : Row) → has_row (ts ++ x ∷ []) y ≡ false → (has_row ts y ≡ false) × (same_row y x ≡ false)
apart_from_all ts x y h = none_of_both (has_row ts y) (same_row y x) (sym (list_any-append (same_row y) ts (x ∷ [])) ∙ h)

apart_from_more : (ts : List Row) (x y : Row) → has_row ts y ≡ false → same_row y x ≡ false → has_row (ts ++ x ∷ []) y ≡ false
apart_from_more ts x y h k = list_any-append (same_row y) ts (x ∷ []) ∙ both_not (has_row ts y) (same_row y x) h k

-- a list that a row is noted in may take memory
pub noted_gives_back : (ts now : List Row) (x : Row) (capacity : ℕ) → now ≡ ts ++ x ∷ [] → GivesBack now capacity
noted_gives_back ts now x capacity noted none = absurd (omega (arith, ap length (sym noted ∙ none), length-append ts (x ∷ [])))

-- ---- one entry changes
module _ {V : Type 0} (x : Row) (o : Option V) (old new : List (Row × V)) (finds : FindsAt x o old new) where
  pub found_itself : lookup (same_row x) new ≡ o
  found_itself = finds x ∙ ap (λ b. cond b o (lookup (same_row x) old)) (same_row-itself x)

  pub others_stay : OthersStay x old new
  others_stay y n = finds y ∙ ap (λ b. cond b o (lookup (same_row y) old)) n

-- a row that is absent is found with nothing
pub absent-finds : {V : Type 0} (x : Row) (es : List (Row × V)) → lookup (same_row x) es ≡ None → FindsAt x None es es
absent-finds x es absent q =
    elim (same_row x q) as (λ b. same_row x q ≡ b → lookup (same_row q) es ≡ cond b None (lookup (same_row q) es)) [
      | true ↦ λ same. subst (λ y. lookup (same_row y) es ≡ None) (same_row-equal x q same) absent
      | false ↦ λ other. refl
    ] refl

-- of two values that are chosen alike, the last one stays
pub cond-again : {A : Type 0} (b : Bool) (last first other : A) → cond b last (cond b first other) ≡ cond b last other
cond-again true last first other = refl
cond-again false last first other = refl

-- of two changes of one entry, the last one stays
pub FindsAt-again : {V : Type 0} (x : Row) (first last : Option V) (old mid new : List (Row × V)) → FindsAt x first old mid → FindsAt x last mid new → FindsAt x last old new
FindsAt-again x first last old mid new f g q =
    g q ∙ ap (cond (same_row x q) last) (f q) ∙ cond-again (same_row x q) last first (lookup (same_row q) old)

-- ---- all rows but the touched ones
module _ {V : Type 0} (P : V → Type 0) (touched : List Row) (x : Row) (old new : List (Row × V)) (stays : OthersStay x old new) where
  -- a row is touched
  pub all_but_more : AllBut P touched old → AllBut P (touched ++ x ∷ []) new
  all_but_more h y n =
      let apart = apart_from_all touched x y n in
      subst (λ o. IfSome o P) (sym (stays y (same_row-turned x y ∙ apart.1))) (h y apart.0)

  -- the touched row is one of which P holds
  pub all_but_less : AllBut P (touched ++ x ∷ []) old → IfSome (lookup (same_row x) new) P → AllBut P touched new
  all_but_less h there y n =
      elim (same_row x y) as (λ b. same_row x y ≡ b → IfSome (lookup (same_row y) new) P) [
        | true ↦ λ e. subst (λ z. IfSome (lookup (same_row z) new) P) (same_row-equal x y e) there
        | false ↦ λ e. subst (λ o. IfSome o P) (sym (stays y e)) (h y (apart_from_more touched x y n (same_row-turned y x ∙ e)))
      ] refl

-- a row is touched, and no entry changes
pub all_but_noted : {V : Type 0} (P : V → Type 0) (touched : List Row) (x : Row) (es : List (Row × V)) → AllBut P touched es → AllBut P (touched ++ x ∷ []) es
all_but_noted P touched x es h = all_but_more P touched x es es (λ y n. refl) h
