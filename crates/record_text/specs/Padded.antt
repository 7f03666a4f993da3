-- Lists that lie at the front of an array, whose other cells have a filler.
use Rattle.std.specs.Prelude.{◌≡◌, ℕ, ◌≤◌, ◌-◌, ◌++◌, length, List, take, drop, replicate}
use Rattle.std.proofs.Common.{sym, ap, ◌∙◌, arith, take-append-drop, length-take-le}

module _ {A : Type 0} (filler : A) (room : ℕ) where
  -- the array with the list at its front
  abbrev pub padded : List A → List A
  padded xs = xs ++ replicate (room - length xs) filler

  -- the array has as many cells as there is room for, and the filler after the first len
  pub record IsPadded (cells : List A) (len : ℕ) : Type 0 where
    pub full : length cells ≡ room
    pub within : len ≤ room
    pub rest : drop len cells ≡ replicate (room - len) filler

  -- there are len cells before the filler
  pub length-front : (cells : List A) (len : ℕ) → IsPadded cells len → length (take len cells) ≡ len
  length-front cells len h = length-take-le len cells (omega (arith, h.full, h.within))

  -- the cells before the filler give the array back
  pub padded-front : (cells : List A) (len : ℕ) → IsPadded cells len → padded (take len cells) ≡ cells
  padded-front cells len h =
      ap (λ n. take len cells ++ replicate (room - n) filler) (length-front cells len h)
      ∙ ap (λ rest. take len cells ++ rest) (sym h.rest) ∙ take-append-drop len cells
