use Rattle.std.proofs.Common.{◌≡◌, ◌∙◌, [], length, refl, take, arith}
use Rattle.std.proofs.lemmas.List.{length-take-le}
use Rattle.line_runs.specs.Lines.{open_line}
use Rattle.wpinq_program.proofs.StreamLemmas.{Streaming-start, Streaming-more, Streamed-cut}
use Rattle.wpinq_program.proofs.stream.serve_stream.Goals as goal

pub loop-total-init : goal.loop-total-init
loop-total-init g c = record {
  within = omega arith;
  streaming = rw c.requires.begun (Streaming-start _ _ _);
  files = refl;
  lines = omega arith;
  read = omega arith;
  written = omega arith;
}

pub returns-in-Err-serve_piece-clause-streamed : goal.returns-in-Err-serve_piece-clause-streamed
returns-in-Err-serve_piece-clause-streamed g c =
    let s = c.loop-total.invariant.streaming in
    let count = c.in-Ok.count in
    let piece = c.read_some.new.buf in
    let len : length (take count piece) ≡ count = length-take-le count piece c.in-Ok.ensures.bound in
    Streamed-cut _ _ c.loop-total.total count _ _ _ _ _ _ c.loop-total.begun _ (take count piece) s c.in-Ok.ensures.bytes.0 len
    (omega (arith, c.in-Ok.ensures.most)) (rw c.loop-total.invariant.files at (c.in-Err-serve_piece.ensures.served (open_line [] s.taken) s.line))

pub loop-total-preserved : goal.loop-total-preserved
loop-total-preserved g c =
    let s = c.loop-total.invariant.streaming in
    let count = c.in-Ok.count in
    let piece = c.read_some.new.buf in
    let len : length (take count piece) ≡ count = length-take-le count piece c.in-Ok.ensures.bound in
    let e = c.in-Ok-serve_piece.ensures in
    record {
      within = omega (arith, c.in-Ok.ensures.most);
      streaming = Streaming-more _ c.loop-total.total count _ _ _ _ _ _ c.loop-total.begun _ (take count piece) s c.in-Ok.ensures.bytes.0 len
          (rw c.loop-total.invariant.files at (e.served (open_line [] s.taken) s.line)) (e.begun (open_line [] s.taken) s.line);
      files = c.serve_piece.ensures.files ∙ c.loop-total.invariant.files;
      lines = omega (arith, c.serve_piece.ensures.lines, len);
      read = omega arith;
      written = omega arith;
    }
