-- The byte order mark at the start of a text.
use Rattle.std.proofs.Common.{◌≡◌, ◌≢◌, inl, inr, ℕ, List, [], ◌∷◌, false, refl}
use Rattle.std.specs.Prelude.{◌==◌, ◌&&◌}
use Rattle.std.specs.List.{list_any}
use Rattle.std.proofs.lemmas.Bool.{and_parts, cases_Bool, eqb-true, or_parts}
use Rattle.csv.specs.Reading.{is_bom, strip_bom}
use Rattle.plain_csv.specs.Plain.{is_quote}

pub strip_bom-mark : (rest : List ℕ) → strip_bom (239 ∷ 187 ∷ 191 ∷ rest) ≡ rest
unfolding strip_bom
strip_bom-mark rest = refl

pub strip_bom-none : (text : List ℕ) → ((rest : List ℕ) → text ≢ 239 ∷ 187 ∷ 191 ∷ rest) → strip_bom text ≡ text
unfolding strip_bom
strip_bom-none [] other = refl
strip_bom-none (a ∷ []) other = refl
strip_bom-none (a ∷ b ∷ []) other = refl
strip_bom-none (a ∷ b ∷ c ∷ rest) other = elim (cases_Bool (is_bom a b c)) [
  | inl mark ↦
      let parts = and_parts ((a == 239) && (b == 187)) (c == 191) mark in
      let front = and_parts (a == 239) (b == 187) parts.0 in
      let first = eqb-true a 239 front.0 in
      let second = eqb-true b 187 front.1 in
      let third = eqb-true c 191 parts.1 in
      absurd (other rest (rw (first, second, third) refl))
  | inr none ↦ rw none refl
]

-- the mark brings no quote
pub strip_bom-unquoted : (text : List ℕ) → list_any is_quote text ≡ false → list_any is_quote (strip_bom text) ≡ false
unfolding strip_bom
strip_bom-unquoted [] q = q
strip_bom-unquoted (a ∷ []) q = q
strip_bom-unquoted (a ∷ b ∷ []) q = q
strip_bom-unquoted (a ∷ b ∷ c ∷ rest) q = elim (cases_Bool (is_bom a b c)) [
  | inl mark ↦ rw mark (or_parts (is_quote c) _ (or_parts (is_quote b) _ (or_parts (is_quote a) _ q).1).1).1
  | inr none ↦ rw none q
]
