-- Lists of atoms that may lie in place.
use Rattle.std.specs.Prelude.{List}
use Rattle.record_text.specs.declared.atom.Atom.{Atom}
use Rattle.record_text.specs.declared.in_place.Atoms.{Atoms}
use Rattle.record_text.specs.declared.in_place.Atoms.TheVariants.{One, Two, Many, Shared}
use Rattle.record_text.specs.declared.in_place.Long.{Long}
use Rattle.record_text.specs.declared.in_place.Long.TheVariants.{Three, Four, More}

-- the atoms of a longer list, wherever they lie
abbrev pub long_listed : Long → List Atom
long_listed (Three atoms) = atoms
long_listed (Four atoms) = atoms
long_listed (More atoms) = atoms.items

-- the atoms, wherever they lie
abbrev pub listed : Atoms → List Atom
listed (One atoms) = atoms
listed (Two atoms) = atoms
listed (Many atoms) = atoms.items
listed (Shared long) = long_listed long.value
