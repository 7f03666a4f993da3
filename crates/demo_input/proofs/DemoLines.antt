-- The lines of the demo.
use Rattle.std.proofs.Common.{◌≡◌, ℕ, List, [], ◌∷◌, ◌++◌, refl, ap, ◌∙◌, append-nil}
use Rattle.std.specs.List.{flat_map, range_with_len}
use Rattle.line_runs.specs.Lines.{Lines, WholeLines, open_line, whole_lines, last_line}
use Rattle.line_runs.proofs.LineLemmas.{whole_lines-append, open_line-append, open_line-lf}
use Rattle.demo_input.specs.declared.edges.Block.{Block}
use Rattle.demo_input.specs.Demo.{line, edge_line, pair_lines, neighbour, offset_lines, block_lines, blocks_of, source_line, degrees_line, paths_line, demo_setup, demo_questions}

-- no line is open after the text
pub record IsClosed (text : List ℕ) : Type 0 where
  pub closed : open_line [] text ≡ []

-- an LF closes its text
pub IsClosed-line : (text : List ℕ) → IsClosed (line text)
unfolding line
IsClosed-line text = record { closed = open_line-lf [] text }

-- closed texts make a closed text
pub IsClosed-append : (first second : List ℕ) → IsClosed first → IsClosed second → IsClosed (first ++ second)
IsClosed-append first second a b =
    record { closed = open_line-append [] first second ∙ ap (λ begun. open_line begun second) a.closed ∙ b.closed }

-- so do the closed texts of items
pub IsClosed-flat_map : {X : Type 0} (f : X → List ℕ) (items : List X) → ((x : X) → IsClosed (f x)) → IsClosed (flat_map f items)
unfolding open_line
IsClosed-flat_map f [] each = record { closed = refl }
IsClosed-flat_map f (x ∷ items) each =
    IsClosed-append (f x) (flat_map f items) (each x) (IsClosed-flat_map f items each)

-- an update is closed
pub IsClosed-edge : (from to : ℕ) → IsClosed (edge_line from to)
unfolding edge_line
IsClosed-edge from to = IsClosed-line _

-- the updates of a block are closed
pub IsClosed-block : (block : Block) → IsClosed (block_lines block)
unfolding block_lines offset_lines
IsClosed-block block =
    IsClosed-flat_map (offset_lines block) (range_with_len 1 block.offsets) (λ offset.
    IsClosed-flat_map (λ i. pair_lines i (neighbour block offset i)) (range_with_len block.base block.size) (λ i.
    IsClosed-append _ _ (IsClosed-edge _ _) (IsClosed-edge _ _)))

-- the setup is closed
pub IsClosed-setup : (n : ℕ) → IsClosed (demo_setup n)
unfolding demo_setup source_line degrees_line paths_line
IsClosed-setup n =
    IsClosed-append _ _ (IsClosed-append _ _ (IsClosed-append _ _ (IsClosed-line _) (IsClosed-line _)) (IsClosed-line _))
    (IsClosed-flat_map block_lines (blocks_of n) IsClosed-block)

-- the questions are closed
pub IsClosed-questions : IsClosed demo_questions
unfolding demo_questions
IsClosed-questions = IsClosed-append _ _ (IsClosed-append _ _ (IsClosed-line _) (IsClosed-line _)) (IsClosed-line _)

-- all lines of a closed text are whole
pub Lines-closed : (text : List ℕ) → IsClosed text → Lines text ≡ WholeLines text
Lines-closed text ended = ap (λ begun. WholeLines text ++ last_line begun) ended.closed ∙ append-nil (WholeLines text)

-- the lines of a closed text and of what follows
pub WholeLines-closed : (first second : List ℕ) → IsClosed first → WholeLines (first ++ second) ≡ WholeLines first ++ WholeLines second
WholeLines-closed first second ended =
    whole_lines-append [] first second ∙ ap (λ begun. WholeLines first ++ whole_lines begun second) ended.closed
