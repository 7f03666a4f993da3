use Rattle.std.proofs.Common.{subst}
use Rattle.std.proofs.lemmas.List.Elements.{All-more}
use Rattle.record_text.specs.Held.{IsAtom}
use Rattle.record_text.proofs.Rows.{written_next}
use Rattle.record_text.proofs.row_json.values_of.Goals as goal

pub loop-atom-preserved : goal.loop-atom-preserved
loop-atom-preserved c = (
  rw c.in_ok-push.ensures.items
      (written_next c.loop-atom.values.items c.args.atoms.now c.loop-atom.atom-index c.in_ok-atom_to_json.field-0 c.atom-item.result c.loop-atom-test.true c.atom-item.is c.in_ok-atom_to_json.ensures.value c.loop-atom.invariant.0),
  All-more IsAtom c.args.atoms.now c.loop-atom.atom-index c.atom-item.result c.loop-atom-test.true c.loop-atom.invariant.1 (subst IsAtom c.atom-item.is c.in_ok-atom_to_json.ensures.held),
)
