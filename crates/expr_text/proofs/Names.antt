-- Each name of a table is found at its place.
use Rattle.std.proofs.Common.{◌≡◌, ℕ, zero, suc, ◌+◌, List, [], ◌∷◌, Some, refl, arith}
use Rattle.std.specs.Prelude.{slice_get}
use Rattle.prim_table.specs.Tables.{found, names1, names2, names3}
use Rattle.prim_table.specs.declared.tables.PrimId.{PrimId}
use Rattle.prim_table.specs.declared.tables.PrimId.TheVariants as prim

-- these names, the first of which has this place, are found at their places
abbrev AreFound : (ℕ → PrimId) → ℕ → List (List ℕ) → Type 0
AreFound id at [] = Unit {0}
AreFound id at (name ∷ names) = (found name ≡ Some (id at)) × AreFound id (suc at) names

found_at : (id : ℕ → PrimId) (from : ℕ) (names : List (List ℕ)) (at : ℕ) (name : List ℕ) → AreFound id from names → slice_get names at ≡ Some name → found name ≡ Some (id (from + at))
found_at id from [] at name all is = cc
found_at id from (n ∷ names) zero name all is =
    let same : n ≡ name = cc in
    let here : from + 0 ≡ from = omega arith in
    rw (here, ← same) all.0
found_at id from (n ∷ names) (suc at) name all is =
    let next : from + suc at ≡ suc from + at = omega arith in
    rw next (found_at id (suc from) names at name all.1 is)

pub found-names1 : (at : ℕ) (name : List ℕ) → slice_get names1 at ≡ Some name → found name ≡ Some (prim.One at)
found-names1 at name is =
    let here : 0 + at ≡ at = omega arith in
    rw here at (found_at prim.One 0 names1 at name (refl, (refl, (refl, (refl, (refl, (refl, tt)))))) is)

pub found-names2 : (at : ℕ) (name : List ℕ) → slice_get names2 at ≡ Some name → found name ≡ Some (prim.Two at)
found-names2 at name is =
    let here : 0 + at ≡ at = omega arith in
    rw here at (found_at prim.Two 0 names2 at name (
      refl,
      (
        refl,
        (
          refl,
          (
            refl,
            (
              refl,
              (
                refl,
                (
                  refl,
                  (
                    refl,
                    (
                      refl,
                      (refl, (refl, (refl, (refl, (refl, (refl, (refl, (refl, (refl, tt))))))))),
                    ),
                  ),
                ),
              ),
            ),
          ),
        ),
      ),
    ) is)

pub found-names3 : (at : ℕ) (name : List ℕ) → slice_get names3 at ≡ Some name → found name ≡ Some (prim.Three at)
found-names3 at name is =
    let here : 0 + at ≡ at = omega arith in
    rw here at (found_at prim.Three 0 names3 at name (refl, (refl, tt)) is)
