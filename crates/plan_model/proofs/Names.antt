-- Sources of distinct names.
use Rattle.std.proofs.Common.{◌≡◌, ◌∙◌, true, false, List, [], ◌∷◌, ◌++◌, refl, sym}
use Rattle.std.specs.Cmp.Lexicographic.{nat_list_eq_equiv}
use Rattle.std.proofs.lemmas.Bool.{and_from, and_parts, not-true, not_from_false, or_from, or_parts}
use Rattle.std.proofs.lemmas.List.Folds.{list_any-append}
use Rattle.record_text.specs.Names.{name_eq}
use Rattle.plan_model.specs.Sources.{are_distinct, has_name}
use Rattle.plan_model.specs.declared.source_types.SourceType.{SourceType}

-- a name that none of the types has isn't that of a last one either
has_name-appended : (types : List SourceType) (last t : SourceType) → has_name types t.name ≡ false → name_eq last.name t.name ≡ false → has_name (types ++ last ∷ []) t.name ≡ false
has_name-appended types last t none other =
    list_any-append (λ u. name_eq t.name u.name) types (last ∷ [])
    ∙ or_from _ _ none (or_from _ _ (nat_list_eq_equiv.symm t.name last.name ∙ other) refl)

-- a type of a new name may be appended
pub are_distinct_appended : (types : List SourceType) (last : SourceType) → are_distinct types ≡ true → has_name types last.name ≡ false → are_distinct (types ++ last ∷ []) ≡ true
are_distinct_appended [] last distinct new = refl
are_distinct_appended (t ∷ types) last distinct new =
    let parts = and_parts _ (are_distinct types) distinct in
    let others = or_parts (name_eq last.name t.name) (has_name types last.name) new in
    and_from _ _ (not_from_false _ (has_name-appended types last t (not-true _ parts.0) others.0)) (are_distinct_appended types last parts.1 others.1)

-- a front of the types has distinct names
pub are_distinct_front : (front rest : List SourceType) → are_distinct (front ++ rest) ≡ true → are_distinct front ≡ true
are_distinct_front [] rest distinct = refl
are_distinct_front (t ∷ front) rest distinct =
    let parts = and_parts _ (are_distinct (front ++ rest)) distinct in
    let others = or_parts (has_name front t.name) (has_name rest t.name) (sym (list_any-append (λ u. name_eq t.name u.name) front rest) ∙ not-true _ parts.0) in
    and_from _ _ (not_from_false _ others.0) (are_distinct_front front rest parts.1)
