use Rattle.std.proofs.Common.{◌≡◌, map, take}
use Rattle.std.specs.Prelude.{All}
use Rattle.serde_json.specs.View.{view}
use Rattle.record_text.specs.Held.{IsAtom}
use Rattle.record_text.specs.JsonRows.{atom_data}
use Rattle.record_text.proofs.row_json.values_of.Given as goal

abbrev pub invariant-loop-atom : goal.invariant-loop-atom
invariant-loop-atom l = (map view l.values.items ≡ map atom_data (take l.atom-index l.atoms)) × All IsAtom (take l.atom-index l.atoms)
