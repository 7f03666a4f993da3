use Rattle.std.proofs.Common.{◌≡◌, ◌∙◌, sym, nat_eq, rules, tests}
use Rattle.std.specs.Cmp.Lexicographic.{pointwise}
use Rattle.std.proofs.lemmas.Iterator.{YieldsList-from_slice}
use Rattle.std.proofs.lemmas.Iterator.Search.{position_from_yields_List}
use Rattle.prim_table.specs.Tables.{names2, index_of}
use Rattle.prim_table.proofs.tables.index_in_two.Goals as goal

pub returns-in-Some : goal.returns-in-Some
returns-in-Some c =
    let found : c.position.result ≡ index_of names2 c.args.name.now = position_from_yields_List (λ row. pointwise nat_eq row.name.now c.args.name.now) _ _ c.position.result c.position.ensures.ran (YieldsList-from_slice _ c.iter.ensures.rest) (λ x b q k. search (rules, tests)) in
    sym c.in-Some.is ∙ found

pub returns-in-None : goal.returns-in-None
returns-in-None c =
    let found : c.position.result ≡ index_of names2 c.args.name.now = position_from_yields_List (λ row. pointwise nat_eq row.name.now c.args.name.now) _ _ c.position.result c.position.ensures.ran (YieldsList-from_slice _ c.iter.ensures.rest) (λ x b q k. search (rules, tests)) in
    sym c.in-None.is ∙ found
