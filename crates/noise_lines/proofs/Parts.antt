-- A line that is taken byte by byte.
use Rattle.std.proofs.Common.{◌≡◌, ◌≢◌, ℕ, ◌≤◌, ℤ, List, [], ◌∷◌, ◌++◌, length, take, Option, None, Some, inl, inr, refl, ap, sym, subst, ◌∙◌, append_assoc, append-nil, arith}
use Rattle.std.proofs.lemmas.List.{take_all}
use Rattle.std.proofs.lemmas.List.Elements.{All-nil, All-push}
use Rattle.io_edge.specs.Known.{IsUsedUp, Loses}
use Rattle.io_edge.proofs.KnownLemmas.{Loses-append, Loses-none}
use Rattle.noise_lines.specs.Lines.{front_len, number_of}
use Rattle.noise_lines.specs.Taken.{NextNumber, TakesPart, TakesRest}
use Rattle.noise_lines.proofs.LineFronts.{front-push}

-- nothing of the line is taken yet
pub part-none : (known : Option (List ℕ)) → TakesPart known known []
part-none known = record { one = All-nil (λ byte. byte ≢ 10); taken = Loses-none known }

pub kept-none : (begun : List ℕ) → length begun ≤ front_len → begun ≡ take front_len (begun ++ [])
kept-none begun short = sym (rw append-nil (take_all front_len begun short))

-- one more byte
pub part-more : (old middle new : Option (List ℕ)) (part : List ℕ) (byte : ℕ) → TakesPart old middle part → byte ≢ 10
    → Loses middle new (byte ∷ []) → TakesPart old new (part ++ byte ∷ [])
part-more old middle new part byte so_far other taken = record {
  one = All-push (λ b. b ≢ 10) part byte so_far.one other;
  taken = Loses-append old middle new part (byte ∷ []) so_far.taken taken;
}

pub kept-more : (begun part kept : List ℕ) (byte : ℕ) → kept ≡ take front_len (begun ++ part)
    → take front_len (kept ++ byte ∷ []) ≡ take front_len (begun ++ (part ++ byte ∷ []))
kept-more begun part kept byte is =
    ap (λ (k : List ℕ). take front_len (k ++ byte ∷ [])) is
    ∙ front-push front_len (begun ++ part) byte
    ∙ ap (take front_len) (append_assoc begun part (byte ∷ []))

-- the LF
pub rest-whole : (begun : List ℕ) (old middle new : Option (List ℕ)) (part : List ℕ) → TakesPart old middle part
    → Loses middle new (10 ∷ []) → TakesRest begun old new part
rest-whole begun old middle new part so_far taken =
    record { one = so_far.one; taken = inl (Loses-append old middle new part (10 ∷ []) so_far.taken taken) }

-- the end of the source, after a byte or more
pub rest-ended : (begun : List ℕ) (old middle new : Option (List ℕ)) (part : List ℕ) → TakesPart old middle part
    → IsUsedUp middle → new ≡ middle → begun ++ part ≢ [] → TakesRest begun old new part
rest-ended begun old middle new part so_far used same some = record {
  one = so_far.one;
  taken = inr (subst (λ (k : Option (List ℕ)). Loses old k part) (sym same) so_far.taken, some, subst IsUsedUp (sym same) used);
}

-- nothing is kept only of a line without a byte
pub none-begun : (begun part kept : List ℕ) → kept ≡ take front_len (begun ++ part) → length kept ≡ 0
    → (begun ≡ []) × (part ≡ [])
none-begun [] [] kept is none = (refl, refl)
none-begun [] (byte ∷ part) kept is none = absurd (omega (arith, ap length is))
none-begun (byte ∷ begun) part kept is none = absurd (omega (arith, ap length is))

pub none-taken : (old new : Option (List ℕ)) (part : List ℕ) → part ≡ [] → Loses old new part → new ≡ old
none-taken None None part none taken = refl
none-taken None (Some new) part none taken = absurd taken
none-taken (Some old) None part none taken = absurd taken
none-taken (Some old) (Some new) part none taken =
    ap Some (sym (taken ∙ ap (λ (p : List ℕ). p ++ new) none))

-- the number on a line whose rest is taken
pub next-number : (begun : List ℕ) (old new : Option (List ℕ)) (before now : ℕ) (number : Option ℤ) (kept rest : List ℕ)
    → TakesRest begun old new rest → number ≡ number_of (begun ++ rest) → kept ≡ []
    → NextNumber begun old new before now number kept
next-number begun old new before now (Some n) kept rest takes is none = (rest, takes, sym is, none)
next-number begun old new before now None kept rest takes is none = inl (rest, takes, sym is, none)
