use Rattle.std.proofs.Common.{◌≡◌, ◌∙◌, ◌++◌, ℕ, List, ap, sym, append_assoc}
use Rattle.std.specs.Prelude.{codes, decimal}
use Rattle.demo_input.specs.Demo.{edge_line, line}
use Rattle.demo_input.proofs.edges.append_edge.Goals as goal

-- five pieces, one after another
five_pieces : (start first second third fourth bytes a b c d e : List ℕ)
    → first ≡ start ++ a → second ≡ first ++ b → third ≡ second ++ c → fourth ≡ third ++ d → bytes ≡ fourth ++ e
    → bytes ≡ start ++ (a ++ b ++ c ++ d ++ e)
five_pieces start first second third fourth bytes a b c d e one two three four five =
    rw (five, four, three, two, one) (simp append_assoc)

-- an update with its LF in the last piece
last_piece : (from to : ℕ)
    → codes "{\"op\":\"update\",\"source\":\"edges\",\"csv\":\"" ++ decimal from ++ codes "," ++ decimal to ++ codes ",1\"}\n" ≡ edge_line from to
unfolding edge_line line
last_piece from to =
    sym (append_assoc (codes "{\"op\":\"update\",\"source\":\"edges\",\"csv\":\"" ++ decimal from ++ codes "," ++ decimal to) (codes ",1\"}") (codes "\n"))

pub returns-clause-ok : goal.returns-clause-ok
returns-clause-ok c =
    let first = c.extend_from_slice.new.self.items in
    let third = c.extend_from_slice-3.new.self.items in
    five_pieces c.args.into.now.items first c.extend_from_slice-2.new.self.items third c.extend_from_slice-4.new.self.items _
    (codes "{\"op\":\"update\",\"source\":\"edges\",\"csv\":\"") (decimal c.args.from) (codes ",") (decimal c.args.to) (codes ",1\"}\n")
    c.in_ok-extend_from_slice.ensures.items
    (c.in_ok-extend_from_slice-2.ensures.items ∙ ap (λ digits. first ++ digits) (c.as_bytes.ensures.value ∙ c.format.ensures.text))
    c.in_ok-extend_from_slice-3.ensures.items
    (c.in_ok-extend_from_slice-4.ensures.items ∙ ap (λ digits. third ++ digits) (c.as_bytes-2.ensures.value ∙ c.format-2.ensures.text))
    c.in_ok-extend_from_slice-5.ensures.items
    ∙ ap (λ text. c.args.into.now.items ++ text) (last_piece c.args.from c.args.to)
