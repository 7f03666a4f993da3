-- What a group makes of one key's part.
use Rattle.std.specs.Prelude.{◌-◌, ◌&&◌, Bool, if◌then◌else◌, length, List, [], ◌∷◌, ◌++◌, Option, Some, None, take}
use Rattle.std.specs.List.{list_all}
use Rattle.ratios.specs.Range.{in_range}
use Rattle.ratios.specs.Ratio.{Ratio, ratio_half}
use Rattle.ratios.specs.Sums.{runs_in_range}
use Rattle.record_text.specs.declared.atom.Atom.{Atom}
use Rattle.datasets.specs.Dataset.{Dataset}
use Rattle.datasets.specs.Entries.{Row}
use Rattle.operators.specs.Operators.{gap, levels, top}
use Rattle.operators.specs.Weights.{gathered, weights_for}

-- the row before its last atom
abbrev pub key_of : Row → Row
key_of z = take (length z - 1) z

-- the key followed by the atom that a level's rows are reduced to
abbrev pub level_row : (List Row → Atom) → Row → Dataset → Ratio → Row
level_row reduce k P t = k ++ reduce (top P t) ∷ []

-- half the gap of a level
abbrev pub level_weight : Dataset → Ratio → Ratio
level_weight P t = ratio_half (gap P t)

-- each level adds half its gap to its output row
abbrev pub group_part : (List Row → Atom) → Row → Dataset → Dataset
group_part reduce k P = gathered (level_row reduce k P) (level_weight P) (levels P)

-- the half gaps of the levels that give the row z, from the highest level down
abbrev pub part_terms : (List Row → Atom) → Row → Dataset → Row → List Ratio
part_terms reduce k P z = weights_for (level_row reduce k P) (level_weight P) (levels P) z

-- each gap, each half gap, and each running sum at an output row
abbrev pub part_in_range : (List Row → Atom) → Row → Dataset → Bool
part_in_range reduce k P =
    list_all (λ t. in_range (gap P t) && in_range (level_weight P t) && runs_in_range (part_terms reduce k P (level_row reduce k P t))) (levels P)

-- the output of a part, or nothing where one of these values is out of range
abbrev pub checked_part : (List Row → Atom) → Row → Dataset → Option Dataset
checked_part reduce k P = if part_in_range reduce k P then Some (group_part reduce k P) else None
