use Rattle.std.proofs.Common.{◌≡◌, drop, map}
use Rattle.io_edge.specs.Shelf.{file_at}
use Rattle.io_edge.proofs.mem_shelf.find.Given as goal

-- the files from here on have the same file at the path as all of them
abbrev pub invariant-loop-file : goal.invariant-loop-file
invariant-loop-file l =
    file_at (map (λ file. (file.path.items, file.bytes.items)) (drop l.file-index l.files)) l.path
    ≡ file_at (map (λ file. (file.path.items, file.bytes.items)) l.files) l.path
