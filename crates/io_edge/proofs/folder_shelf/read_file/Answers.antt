use Rattle.io_edge.proofs.PathBytes.{IsUtf8-path}
use Rattle.io_edge.proofs.folder_shelf.read_file.Goals as goal

pub unreachable-requires : goal.unreachable-requires
unreachable-requires c = c.in-Err.ensures.cases.0 (IsUtf8-path c.args.path.now c.requires.path)
