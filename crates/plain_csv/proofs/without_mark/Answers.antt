use Rattle.std.proofs.Common.{[], ◌∷◌, None, Some, sym}
use Rattle.std.proofs.lemmas.Bool.Decides.{Decides-eqb}
use Rattle.std.proofs.lemmas.Slice.Eq.{strip_prefix_is}
use Rattle.plain_csv.proofs.Marks.{strip_bom-mark, strip_bom-none}
use Rattle.plain_csv.proofs.without_mark.Goals as goal

pub returns-in-Some : goal.returns-in-Some
returns-in-Some c =
    let marked = strip_prefix_is Decides-eqb c.args.text.now (239 ∷ 187 ∷ 191 ∷ []) (Some c.in-Some.rest) c.in-Some.ensures.cases in
    rw marked (sym (strip_bom-mark c.in-Some.rest.now))

pub returns-in-None : goal.returns-in-None
returns-in-None c =
    let other = strip_prefix_is Decides-eqb c.args.text.now (239 ∷ 187 ∷ 191 ∷ []) None c.in-None.ensures.cases in
    sym (strip_bom-none c.args.text.now other)
