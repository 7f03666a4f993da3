-- The demo: a graph in four blocks, as the lines of a session.
use Rattle.std.specs.Prelude.{◌+◌, ◌-◌, ◌%◌, ◌++◌, ℕ, List, [], ◌∷◌, codes, decimal, flat_map, min}
use Rattle.std.specs.List.{range_with_len}
use Rattle.demo_input.specs.declared.edges.Block.{Block}

-- a text and the LF that ends its line
unfoldable pub line : List ℕ → List ℕ
line text = text ++ codes "\n"

-- the source of the edges
unfoldable pub source_line : List ℕ
source_line = line (codes "{\"op\":\"source\",\"name\":\"edges\",\"kinds\":[\"int\",\"int\"],\"signed\":false,\"budget\":1000000}")

-- the plan of degrees
unfoldable pub degrees_line : List ℕ
degrees_line = line (codes "{\"op\":\"plan\",\"name\":\"deg\",\"plan\":{\"format\":1,\"steps\":[{\"do\":\"source\",\"name\":\"edges\"},{\"do\":\"select\",\"of\":0,\"row\":[{\"col\":0}]},{\"do\":\"shave\",\"of\":1,\"runs\":[{\"weight\":\"1\",\"times\":64}]},{\"do\":\"select\",\"of\":2,\"row\":[{\"col\":1}]}]}}")

-- the plan of paths
unfoldable pub paths_line : List ℕ
paths_line = line (codes "{\"op\":\"plan\",\"name\":\"paths\",\"plan\":{\"format\":1,\"steps\":[{\"do\":\"source\",\"name\":\"edges\"},{\"do\":\"join\",\"left\":0,\"right\":0,\"left_key\":[{\"col\":1}],\"right_key\":[{\"col\":0}]}]}}")

-- the update that adds weight 1 to the row of two nodes
unfoldable pub edge_line : ℕ → ℕ → List ℕ
edge_line from to = line (codes "{\"op\":\"update\",\"source\":\"edges\",\"csv\":\"" ++ decimal from ++ codes "," ++ decimal to ++ codes ",1\"}")

-- the updates of an edge, and of the edge back
abbrev pub pair_lines : ℕ → ℕ → List ℕ
pair_lines i j = edge_line i j ++ edge_line j i

-- the node that lies this many nodes after i in the block, round the block's end
abbrev pub neighbour : Block → ℕ → ℕ → ℕ
neighbour block offset i = block.base + (i - block.base + offset) % block.size

-- the updates that join each node of the block to the one at this offset
unfoldable pub offset_lines : Block → ℕ → List ℕ
offset_lines block offset =
    flat_map (λ i. pair_lines i (neighbour block offset i)) (range_with_len block.base block.size)

-- the updates of a block, from offset 1 to its last
unfoldable pub block_lines : Block → List ℕ
block_lines block = flat_map (offset_lines block) (range_with_len 1 block.offsets)

-- the blocks: the first node, the number of nodes, and the last offset of each
abbrev pub blocks_of : ℕ → List Block
blocks_of n =
    record { base = 0; size = 50; offsets = n }
    ∷ record { base = 50; size = 100; offsets = min n 5 }
    ∷ record { base = 150; size = 150; offsets = min n 2 }
    ∷ record { base = 300; size = 200; offsets = 1 }
    ∷ []

-- what the demo asks at its end: degrees, paths and the budget
unfoldable pub demo_questions : List ℕ
demo_questions =
    line (codes "{\"op\":\"exact\",\"plan\":\"deg\",\"rows\":[[1],[3],[9],[39],[40]]}")
    ++ line (codes "{\"op\":\"exact\",\"plan\":\"paths\",\"rows\":[[0,1,1,2],[50,51,51,52],[150,151,151,152],[300,301,301,302],[0,1,1,50]]}")
    ++ line (codes "{\"op\":\"budget\",\"source\":\"edges\"}")

-- the lines before that: the source, the plans, and the updates of each block
unfoldable pub demo_setup : ℕ → List ℕ
demo_setup n = source_line ++ degrees_line ++ paths_line ++ flat_map block_lines (blocks_of n)

-- the demo whose first block has offsets up to n
abbrev pub demo_text : ℕ → List ℕ
demo_text n = demo_setup n ++ demo_questions
