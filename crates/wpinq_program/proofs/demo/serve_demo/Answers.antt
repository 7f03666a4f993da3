use Rattle.std.proofs.Common.{◌∙◌, [], refl}
use Rattle.line_runs.specs.Lines.{open_line, whole_lines}
use Rattle.line_runs.proofs.LineLemmas.{whole_lines-append}
use Rattle.demo_input.specs.Demo.{demo_questions}
use Rattle.wpinq_program.specs.Served.{Ran, seen}
use Rattle.wpinq_program.proofs.LineLemmas.{kept-nil}
use Rattle.wpinq_program.proofs.RanLemmas.{Ran-over}
use Rattle.wpinq_program.proofs.ShownLemmas.{LinesShown-after}
use Rattle.wpinq_program.proofs.demo.serve_demo.Goals as goal

pub returns-clause-shown : goal.returns-clause-shown
returns-clause-shown g c =
    let setup = c.args.setup.now in
    let e = c.in_ok-serve_piece.ensures in
    let none = c.requires.begun ∙ kept-nil in
    let quiet = e.served [] none in
    let shown = rw (c.demo_questions.ensures, c.serve_piece.ensures.files) at (c.serve_piece-2.ensures.served (open_line [] setup) (e.begun [] none)) in
    let written = g.K.Sink.written c.args.out.now in
    let files = g.F.Shelf.files c.args.shelf.now in
    let a = seen c.args.responder.now written (g.N.Noise.given c.args.noise.now) (g.N.Noise.faults c.args.noise.now) (g.F.Shelf.faults c.args.shelf.now) in
    let b = seen c.serve_piece.new.self written (g.N.Noise.given c.serve_piece.new.noise) (g.N.Noise.faults c.serve_piece.new.noise) (g.F.Shelf.faults c.serve_piece.new.shelf) in
    let ran : Ran files a b (whole_lines [] setup) quiet.replies = Ran-over files _ _ written written _ _ quiet.ran in
    rw (whole_lines-append [] setup demo_questions)
    (LinesShown-after files a b _ (whole_lines [] setup) quiet.replies ran refl c.serve_piece-2.result (whole_lines (open_line [] setup) demo_questions) shown)
