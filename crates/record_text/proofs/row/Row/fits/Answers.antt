use Rattle.record_text.specs.KindLists.{kinds_of}
use Rattle.record_text.proofs.Equality.{kinds_decided}
use Rattle.record_text.proofs.row.Row.fits.Goals as goal

pub returns : goal.returns
returns c =
    rw (c.have_kinds.ensures, c.atoms.ensures.value, c.as_slice.ensures)
    (kinds_decided (kinds_of c.args.self.now) c.args.kinds)
