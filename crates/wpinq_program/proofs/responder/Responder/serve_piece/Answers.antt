use Rattle.std.proofs.Common.{◌++◌, ◌∙◌, ap, refl, take, drop, arith}
use Rattle.std.proofs.lemmas.List.{take_rest}
use Rattle.std.proofs.lemmas.Result.{err_from_is_err_and}
use Rattle.line_runs.specs.Lines.{whole_lines, open_line}
use Rattle.wpinq_program.proofs.LineLemmas.{kept-nil}
use Rattle.wpinq_program.proofs.Segments.{segment_found, rest_is_plain}
use Rattle.wpinq_program.proofs.ServedLemmas.{Served-none, Served-next, ServedInPart-next, open_line-next, Served-rest, kept-rest}
use Rattle.wpinq_program.proofs.responder.Responder.serve_piece.Goals as goal
use Rattle.wpinq_program.specs.Limits.{kept_of}

pub loop-len-init : goal.loop-len-init
unfolding whole_lines open_line
loop-len-init g c = record {
  within = omega arith;
  served = λ line k. Served-none _ _;
  begun = λ line k. k;
  later = omega arith;
  files = refl;
  lines = omega arith;
}

pub returns-in_err-serve-clause-served : goal.returns-in_err-serve-clause-served
returns-in_err-serve-clause-served g c = λ line k.
    let p = err_from_is_err_and c.from_residual.result c.from_residual.ensures.1 in
    let piece = c.args.piece.now in
    let start = c.loop-len.start in
    let len = c.in-Some.len in
    let inv = c.loop-len.invariant in
    let s = segment_found piece start len inv.within (rw (take_rest piece start) at c.in-Some.ensures) in
    let kept = c.extend.ensures ∙ ap (λ n. kept_of (c.loop-len.begun ++ take n (drop start piece))) (omega arith) in
    rw (p.1) (ServedInPart-next _ _ _ _ line piece c.loop-len.begun _ start len s (inv.begun line k) kept (inv.served line k) (rw (c.line.ensures, inv.files) at c.in_err-serve.ensures.served))

pub loop-len-preserved : goal.loop-len-preserved
loop-len-preserved g c =
    let piece = c.args.piece.now in
    let start = c.loop-len.start in
    let len = c.in-Some.len in
    let inv = c.loop-len.invariant in
    let s = segment_found piece start len inv.within (rw (take_rest piece start) at c.in-Some.ensures) in
    let kept = c.extend.ensures ∙ ap (λ n. kept_of (c.loop-len.begun ++ take n (drop start piece))) (omega arith) in
    record {
      within = omega (arith, s.within);
      served = λ line k. Served-next _ _ _ _ line piece c.loop-len.begun _ start len _ s (inv.begun line k) kept (inv.served line k) (rw (c.line.ensures, inv.files) at c.in_ok-serve.ensures.served);
      begun = λ line k. rw (open_line-next line piece start len s, c.clear.ensures) kept-nil;
      later = omega arith;
      files = c.serve.ensures.files ∙ inv.files;
      lines = omega arith;
    }

pub returns-clause-served : goal.returns-clause-served
returns-clause-served g c = λ line k.
    let piece = c.args.piece.now in
    let start = c.loop-len.start in
    let plain = rest_is_plain piece start (rw (take_rest piece start) at c.in_default.ensures) in
    Served-rest _ _ _ line piece start plain (c.loop-len.invariant.served line k)

pub returns-clause-begun : goal.returns-clause-begun
returns-clause-begun g c = λ line k.
    let piece = c.args.piece.now in
    let start = c.loop-len.start in
    let plain = rest_is_plain piece start (rw (take_rest piece start) at c.in_default.ensures) in
    kept-rest line piece c.loop-len.begun _ start plain (c.loop-len.invariant.begun line k) (rw (take_rest piece start) at c.extend-2.ensures)
