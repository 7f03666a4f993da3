-- An array into which a list is copied from the front.
use Rattle.std.proofs.Common.{◌≡◌, ℕ, suc, ◌<◌, ◌≤◌, ◌+◌, ◌++◌, ◌∷◌, List, [], length, take, drop, set, replicate, get_or, arith, add-one, append_assoc, length-take-le}
use Rattle.std.proofs.Math.Seq.{drop-cons, take-suc, set-append_seam}
use Rattle.std.proofs.lemmas.List.{take_all, drop-replicate}
use Rattle.record_text.specs.Padded.{padded}

module _ {A : Type 0} where
  -- the next cell is written
  pub filled_next : (xs cells start : List A) (i : ℕ) (x other : A) → i < length xs → i < length start → x ≡ get_or xs i other
      → cells ≡ take i xs ++ drop i start → set cells i x ≡ take (i + 1) xs ++ drop (i + 1) start
  filled_next xs cells start i x other in_list in_start is front =
      let next = drop-cons start i other in_start in
      let within = length-take-le i xs (omega arith) in
      let written = set-append_seam (take i xs) (get_or start i other) (drop (suc i) start) x in
      let more = take-suc xs i other in_list in
      let one = add-one i in
      let joined = append_assoc (take i xs) (x ∷ []) (drop (suc i) start) in
      cc

  -- all cells of the list are written
  pub filled : (filler : A) (room : ℕ) (xs cells : List A) (i : ℕ) → length xs ≤ i → i ≤ length xs
      → cells ≡ take i xs ++ drop i (replicate room filler) → cells ≡ padded filler room xs
  filled filler room xs cells i past within front =
      let end : i ≡ length xs = omega arith in
      let whole = take_all i xs past in
      let rest = drop-replicate i room filler in
      cc
