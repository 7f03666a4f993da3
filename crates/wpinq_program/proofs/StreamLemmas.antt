-- How far the input was taken and answered.
use Rattle.std.proofs.Common.{◌≡◌, ℕ, true, List, [], ◌++◌, refl, ap, sym, ◌∙◌, append-nil, ◌≤◌, ◌+◌, length, length-append, arith}
use Rattle.std.specs.Prelude.{Option}
use Rattle.io_edge.specs.Known.{Loses}
use Rattle.io_edge.specs.Shelf.{Files}
use Rattle.io_edge.proofs.KnownLemmas.{Loses-none, Loses-append}
use Rattle.line_runs.specs.Lines.{whole_lines, open_line}
use Rattle.line_runs.proofs.LineLemmas.{whole_lines-append, open_line-append}
use Rattle.wpinq_program.specs.Limits.{kept_of}
use Rattle.wpinq_program.specs.Served.{Moment, Served, ServedInPart}
use Rattle.wpinq_program.specs.Stream.{Streaming, Streamed}
use Rattle.wpinq_program.specs.declared.stop.Stop.TheVariants.{WriteFault}
use Rattle.wpinq_program.proofs.LineLemmas.{kept-nil}
use Rattle.wpinq_program.proofs.ServedLemmas.{Served-none, Served-append, ServedInPart-append}

pub Streaming-start : (files : Option Files) (left : Option (List ℕ)) (m : Moment) → Streaming files 0 left left m m []
unfolding whole_lines open_line
Streaming-start files left m = record { taken = []; left = Loses-none left; len = refl; served = Served-none files m; line = kept-nil }

-- one more piece, whose lines are served
pub Streaming-more : (files : Option Files) (total n : ℕ) (before mid after : Option (List ℕ)) (start a b : Moment) (begun now piece : List ℕ) (s : Streaming files total before mid start a begun)
    → Loses mid after piece → length piece ≡ n → Served files a b (whole_lines (open_line [] s.taken) piece) true
    → now ≡ kept_of (open_line (open_line [] s.taken) piece) → Streaming files (total + n) before after start b now
Streaming-more files total n before mid after start a b begun now piece s left len served line = record {
  taken = s.taken ++ piece;
  left = Loses-append before mid after s.taken piece s.left left;
  len = length-append s.taken piece ∙ ap (λ m. m + length piece) s.len ∙ ap (λ m. total + m) len;
  served = rw (whole_lines-append [] s.taken piece) (Served-append files start a b (whole_lines [] s.taken) (whole_lines (open_line [] s.taken) piece) true s.served served);
  line = line ∙ ap kept_of (sym (open_line-append [] s.taken piece));
}

-- a piece whose replies weren't all written
pub Streamed-cut : (files : Option Files) (max total n : ℕ) (before mid after : Option (List ℕ)) (start a b : Moment) (begun now piece : List ℕ) (s : Streaming files total before mid start a begun)
    → Loses mid after piece → length piece ≡ n → total + n ≤ max → ServedInPart files a b (whole_lines (open_line [] s.taken) piece)
    → Streamed files max before after start b now WriteFault
Streamed-cut files max total n before mid after start a b begun now piece s left len fits served = record {
  taken = s.taken ++ piece;
  more = [];
  left = rw append-nil (Loses-append before mid after s.taken piece s.left left);
  fits = omega (arith, length-append s.taken piece, s.len, len);
  ends = (refl, rw (whole_lines-append [] s.taken piece) (ServedInPart-append files start a b (whole_lines [] s.taken) (whole_lines (open_line [] s.taken) piece) s.served served));
}
