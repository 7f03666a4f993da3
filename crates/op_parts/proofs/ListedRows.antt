-- Lists of weighted rows, told by their rows and weights.
use Rattle.std.specs.Prelude.{◌≡◌, List, [], ◌∷◌, ◌++◌, length, map, refl, take}
use Rattle.std.proofs.Common.{ap, sym, ◌∙◌}
use Rattle.std.proofs.Math.Seq.{take-append_seam}
use Rattle.std.proofs.lemmas.List.{length-map, take-map}
use Rattle.ratios.specs.Ratio.{Ratio}
use Rattle.datasets.specs.Entries.{Entries, Row}
use Rattle.weighted_set.specs.Changes.{entries_of}
use Rattle.weighted_set.specs.declared.weighted.Weighted.{Weighted}

as_pair : Weighted → Row × Ratio
as_pair e = (e.row, e.weight)

weighed_again : Entries → List Weighted
weighed_again es = map (λ e. record { row = e.0; weight = e.1 }) es

same_list : (list : List Weighted) → weighed_again (entries_of list) ≡ list
unfolding weighed_again
same_list [] = refl
same_list (e ∷ list) = ap (λ rest. e ∷ rest) (same_list list)

-- a list that goes on from another is that one again once it is cut to its length
pub cut_back : (old new : List Weighted) (more : Entries) → entries_of new ≡ entries_of old ++ more → take (length old) new ≡ old
unfolding as_pair
cut_back old new more pushed =
    let many = length-map old as_pair in
    sym (same_list (take (length old) new))
    ∙ ap weighed_again
    (sym (take-map as_pair (length old) new)
    ∙ ap (λ n. take n (entries_of new)) (sym many)
    ∙ ap (take (length (entries_of old))) pushed
    ∙ take-append_seam (entries_of old) more)
    ∙ same_list old
