use Rattle.std.proofs.Common.{◌≡◌, map, drop, vec_len}
use Rattle.json_fields.specs.Walk.{each}
use Rattle.json_fields.proofs.Members.{with_front}
use Rattle.serde_json.specs.View.{view}
use Rattle.record_text.specs.JsonRows.{atom_in}
use Rattle.record_text.proofs.row_json.atoms_from_json.Given as goal

abbrev pub invariant-loop-at : goal.invariant-loop-at
invariant-loop-at l = (with_front l.atoms.items (each atom_in l.at (map view (drop l.at l.list))) ≡ each atom_in 0 (map view l.list)) × (vec_len l.atoms ≡ l.at)
