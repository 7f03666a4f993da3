-- Sources, from lists of their types, datasets and budgets.
use Rattle.std.proofs.Common.{◌≡◌, ◌<◌, ◌≤◌, ℕ, zero, suc, ◌+◌, List, [], ◌∷◌, ◌++◌, refl, sym, ap, ap₂, ◌∙◌, arith, length, get_or, set, map, Some, ◌||◌}
use Rattle.std.specs.Prelude.{All, option_map, slice_get}
use Rattle.std.proofs.lemmas.Option.{slice_get-map}
use Rattle.std.specs.List.{AllWithin, list_any}
use Rattle.record_text.specs.Names.{name_eq}
use Rattle.plan_model.specs.Sources.{has_name}
use Rattle.std.proofs.lemmas.List.Elements.{AllWithin-more_set, All-from_all_within, All-head, All-tail}
use lib.Seq.{map-set_same}
use lib.ListN.{length-map, length-set}
use Rattle.datasets.specs.Dataset.{Dataset}
use Rattle.plan_model.specs.declared.source_types.SourceType.{SourceType}
use Rattle.weighted_set.specs.Held.{HeldDatasets}
use Rattle.session_data.specs.Flow.{committed_family, pending_family}
use Rattle.session_data.specs.Held.{AreAlike, HeldSources, held_sources, source_of, sources_of}
use Rattle.request_machine.specs.Named.{source_name}
use Rattle.request_machine.specs.State.{SourceState, family_of, type_of, types_of}
use Rattle.budget_book.specs.declared.budget.Budget.{Budget}
use Rattle.session_data.proofs.Turned.{rows_here, type_here}

-- as many datasets and budgets as types
pub record AreOne (types : List SourceType) (As : List Dataset) (bs : List Budget) : Type 0 where
  pub datasets : length As ≡ length types
  pub budgets : length bs ≡ length types

pub AreOne-rest : (t : SourceType) (types : List SourceType) (A : Dataset) (As : List Dataset) (b : Budget) (bs : List Budget) → AreOne (t ∷ types) (A ∷ As) (b ∷ bs) → AreOne types As bs
AreOne-rest t types A As b bs h = record { datasets = omega (arith, h.datasets); budgets = omega (arith, h.budgets) }

pub no_dataset : {X : Type 0} (t : SourceType) (types : List SourceType) (bs : List Budget) → AreOne (t ∷ types) [] bs → X
no_dataset t types bs h = absurd (omega (arith, h.datasets))

pub no_budget : {X : Type 0} (t : SourceType) (types : List SourceType) (As : List Dataset) → AreOne (t ∷ types) As [] → X
no_budget t types As h = absurd (omega (arith, h.budgets))

pub types_of-sources_of : (types : List SourceType) (As : List Dataset) (bs : List Budget) → AreOne types As bs → types_of (sources_of types As bs) ≡ types
types_of-sources_of [] As bs h = refl
types_of-sources_of (t ∷ types) [] bs h = no_dataset t types bs h
types_of-sources_of (t ∷ types) (A ∷ As) [] h = no_budget t types (A ∷ As) h
types_of-sources_of (t ∷ types) (A ∷ As) (b ∷ bs) h = ap (λ ts. t ∷ ts) (types_of-sources_of types As bs (AreOne-rest t types A As b bs h))

pub family_of-sources_of : (types : List SourceType) (As : List Dataset) (bs : List Budget) → AreOne types As bs → family_of (sources_of types As bs) ≡ As
family_of-sources_of [] [] bs h = refl
family_of-sources_of [] (A ∷ As) bs h = absurd (omega (arith, h.datasets))
family_of-sources_of (t ∷ types) [] bs h = no_dataset t types bs h
family_of-sources_of (t ∷ types) (A ∷ As) [] h = no_budget t types (A ∷ As) h
family_of-sources_of (t ∷ types) (A ∷ As) (b ∷ bs) h = ap (λ Bs. A ∷ Bs) (family_of-sources_of types As bs (AreOne-rest t types A As b bs h))

pub names-sources_of : (types : List SourceType) (As : List Dataset) (bs : List Budget) → AreOne types As bs → map source_name (sources_of types As bs) ≡ map (λ (t : SourceType). t.name) types
names-sources_of [] As bs h = refl
names-sources_of (t ∷ types) [] bs h = no_dataset t types bs h
names-sources_of (t ∷ types) (A ∷ As) [] h = no_budget t types (A ∷ As) h
names-sources_of (t ∷ types) (A ∷ As) (b ∷ bs) h = ap (λ names. t.name ∷ names) (names-sources_of types As bs (AreOne-rest t types A As b bs h))

pub length-sources_of : (types : List SourceType) (As : List Dataset) (bs : List Budget) → AreOne types As bs → length (sources_of types As bs) ≡ length types
length-sources_of [] As bs h = refl
length-sources_of (t ∷ types) [] bs h = no_dataset t types bs h
length-sources_of (t ∷ types) (A ∷ As) [] h = no_budget t types (A ∷ As) h
length-sources_of (t ∷ types) (A ∷ As) (b ∷ bs) h = ap suc (length-sources_of types As bs (AreOne-rest t types A As b bs h))

-- one source more
pub sources_of-push : (types : List SourceType) (As : List Dataset) (bs : List Budget) (t : SourceType) (A : Dataset) (b : Budget) → AreOne types As bs
    → sources_of (types ++ t ∷ []) (As ++ A ∷ []) (bs ++ b ∷ []) ≡ sources_of types As bs ++ source_of t A b ∷ []
sources_of-push [] [] [] t A b h = refl
sources_of-push [] (B ∷ As) bs t A b h = absurd (omega (arith, h.datasets))
sources_of-push [] [] (c ∷ bs) t A b h = absurd (omega (arith, h.budgets))
sources_of-push (u ∷ types) [] bs t A b h = no_dataset u types bs h
sources_of-push (u ∷ types) (B ∷ As) [] t A b h = no_budget u types (B ∷ As) h
sources_of-push (u ∷ types) (B ∷ As) (c ∷ bs) t A b h = ap (λ sources. source_of u B c ∷ sources) (sources_of-push types As bs t A b (AreOne-rest u types B As c bs h))

-- one source with other rows
pub sources_of-set : (types : List SourceType) (As : List Dataset) (bs : List Budget) (i : ℕ) (s : SourceState) (A : Dataset) → AreOne types As bs
    → slice_get (sources_of types As bs) i ≡ Some s → sources_of types (set As i A) bs ≡ set (sources_of types As bs) i (record s { rows = A })
sources_of-set [] As bs i s A h is = refl
sources_of-set (t ∷ types) [] bs i s A h is = no_dataset t types bs h
sources_of-set (t ∷ types) (B ∷ As) [] i s A h is = no_budget t types (B ∷ As) h
sources_of-set (t ∷ types) (B ∷ As) (b ∷ bs) zero s A h is =
    let e : source_of t B b ≡ s = cc in ap (λ (u : SourceState). record u { rows = A } ∷ sources_of types As bs) e
sources_of-set (t ∷ types) (B ∷ As) (b ∷ bs) (suc i) s A h is =
    ap (λ sources. source_of t B b ∷ sources) (sources_of-set types As bs i s A (AreOne-rest t types B As b bs h) is)

-- ---- loops over sets

-- before a place nothing is pending, and one of the two weights of each row stays
pub record SettledBefore (stays : HeldDatasets → Dataset) (old new : List HeldDatasets) (at : ℕ) : Type 0 where
  pub within : length new ≡ length old
  pub kept : map stays new ≡ map stays old
  pub done : AllWithin (λ (set : HeldDatasets). set.committed ≡ set.pending) new 0 at

-- one more set with nothing pending
pub SettledBefore-more : (stays : HeldDatasets → Dataset) (old new : List HeldDatasets) (at : ℕ) (s : HeldDatasets) → at < length new
    → SettledBefore stays old new at → stays s ≡ stays (get_or new at s) → s.committed ≡ s.pending → SettledBefore stays old (set new at s) (at + 1)
SettledBefore-more stays old new at s lt h same settled = record {
  within = length-set new at s ∙ h.within;
  kept = map-set_same stays new at s s same ∙ h.kept;
  done = AllWithin-more_set new at s lt (λ (set : HeldDatasets). set.committed ≡ set.pending) h.done settled;
}

settled_families : (sets : List HeldDatasets) → All (λ (set : HeldDatasets). set.committed ≡ set.pending) sets → committed_family sets ≡ pending_family sets
settled_families [] all = refl
settled_families (s ∷ sets) all =
    ap₂ (λ (A : Dataset) (As : List Dataset). A ∷ As) (All-head (λ (set : HeldDatasets). set.committed ≡ set.pending) s sets all)
    (settled_families sets (All-tail (λ (set : HeldDatasets). set.committed ≡ set.pending) s sets all))

-- nothing is pending in any set
pub SettledBefore-all : (stays : HeldDatasets → Dataset) (old new : List HeldDatasets) (at : ℕ) → length new ≤ at
    → SettledBefore stays old new at → committed_family new ≡ pending_family new
SettledBefore-all stays old new at end h =
    settled_families new (All-from_all_within (λ (set : HeldDatasets). set.committed ≡ set.pending) new (λ k d low high. h.done k d low (omega (arith, end, high))))

-- ---- what is alike

module _ (names : List (List ℕ)) (types : List SourceType) (sets : List HeldDatasets) (budgets : List Budget) (alike : AreAlike names types sets budgets) where
  pub committed_one : AreOne types (committed_family sets) budgets
  committed_one = record { datasets = length-map sets (λ (set : HeldDatasets). set.committed) ∙ alike.sets; budgets = alike.budgets }

  pub pending_one : AreOne types (pending_family sets) budgets
  pending_one = record { datasets = length-map sets (λ (set : HeldDatasets). set.pending) ∙ alike.sets; budgets = alike.budgets }

  -- there are as many sources as types
  pub length-held : length (sources_of types (committed_family sets) budgets) ≡ length types
  length-held = length-sources_of types (committed_family sets) budgets committed_one

  -- where nothing is pending in the sources, nothing is in the sets
  pub families-settled : sources_of types (pending_family sets) budgets ≡ sources_of types (committed_family sets) budgets → pending_family sets ≡ committed_family sets
  families-settled same =
      sym (family_of-sources_of types (pending_family sets) budgets pending_one) ∙ ap family_of same ∙ family_of-sources_of types (committed_family sets) budgets committed_one

-- in a set of settled families nothing is pending
pub set_settled : (sets : List HeldDatasets) (i : ℕ) (s : HeldDatasets) → pending_family sets ≡ committed_family sets → slice_get sets i ≡ Some s → s.pending ≡ s.committed
set_settled [] i s same here = cc
set_settled (h ∷ sets) zero s same here =
    let at : h ≡ s = cc in
    let head : h.pending ≡ h.committed = cc in
    ap (λ (u : HeldDatasets). u.pending) (sym at) ∙ head ∙ ap (λ (u : HeldDatasets). u.committed) at
set_settled (h ∷ sets) (suc i) s same here =
    let rest : pending_family sets ≡ committed_family sets = cc in set_settled sets i s rest here

module _ (names : List (List ℕ)) (types : List SourceType) (sets : List HeldDatasets) (budgets : List Budget) (alike : AreAlike names types sets budgets)
    (v : HeldSources) (is : held_sources types sets budgets ≡ v) where
  -- where nothing is pending in the sources, nothing is in the sets
  pub held-settled : v.pending ≡ v.committed → pending_family sets ≡ committed_family sets
  held-settled settled =
      families-settled names types sets budgets alike
      (ap (λ (h : HeldSources). h.pending) is ∙ settled ∙ sym (ap (λ (h : HeldSources). h.committed) is))

  -- the type and the rows of the source at a place
  pub held_here : (i : ℕ) (source : SourceState) → slice_get v.committed i ≡ Some source → slice_get (sources_of types (committed_family sets) budgets) i ≡ Some source
  held_here i source here = ap (λ (h : HeldSources). slice_get h.committed i) is ∙ here

  pub rows-held : (i : ℕ) (source : SourceState) (s : HeldDatasets) → slice_get v.committed i ≡ Some source → slice_get sets i ≡ Some s → s.committed ≡ source.rows
  rows-held i source s here held =
      let sources = sources_of types (committed_family sets) budgets in
      let family =
      ap (λ (F : List Dataset). slice_get F i) (family_of-sources_of types (committed_family sets) budgets (committed_one names types sets budgets alike))
      ∙ slice_get-map (λ (h : HeldDatasets). h.committed) sets i ∙ ap (option_map (λ (h : HeldDatasets). h.committed)) held in
      sym (rows_here sources i source s.committed (held_here i source here) family)

  pub type-held : (i : ℕ) (source : SourceState) (t : SourceType) → slice_get v.committed i ≡ Some source → slice_get types i ≡ Some t → t ≡ type_of source
  type-held i source t here typed =
      let sources = sources_of types (committed_family sets) budgets in
      let all = ap (λ (ts : List SourceType). slice_get ts i) (types_of-sources_of types (committed_family sets) budgets (committed_one names types sets budgets alike)) ∙ typed in
      sym (type_here sources i source t (held_here i source here) all)

-- whether a type has a name is whether it is among their names
pub has_name-names : (name : List ℕ) (types : List SourceType) → list_any (name_eq name) (map (λ (t : SourceType). t.name) types) ≡ has_name types name
has_name-names name [] = refl
has_name-names name (t ∷ types) = ap (λ b. name_eq name t.name || b) (has_name-names name types)
