-- What is at a path after a file is put there.
use Rattle.std.proofs.Common.{◌≡◌, ◌≢◌, [], ◌∷◌, ℕ, Bool, true, false, List, refl, sym, ap, ◌∙◌, cond, nat_eq, filter, map}
use Rattle.std.specs.Prelude.{Some}
use Rattle.std.specs.Cmp.Lexicographic.{pointwise, bytes_decides}
use Rattle.std.proofs.Common.{inl, inr}
use Rattle.std.proofs.lemmas.Bool.{cases_Bool, false_from_ne_true}
use Rattle.io_edge.specs.Shelf.{Files, file_at, with_file}

-- a filter before or after a map
pub map-filter : {A B : Type 0} (test : B → Bool) (of : A → B) (items : List A)
    → map of (filter (λ item. test (of item)) items) ≡ filter test (map of items)
map-filter test of [] = refl
map-filter test of (item ∷ items) =
    let later = map-filter test of items in
    elim (test (of item)) as (λ passes.
    map of (cond passes (item ∷ filter (λ item. test (of item)) items) (filter (λ item. test (of item)) items))
    ≡ cond passes (of item ∷ filter test (map of items)) (filter test (map of items))) [
      | true ↦ ap (λ rest. of item ∷ rest) later
      | false ↦ later
    ]

-- a path is at itself
same_path : (path : List ℕ) → pointwise nat_eq path path ≡ true
same_path path = (bytes_decides path path).1 refl

-- other bytes are no such path
other_path : (name path : List ℕ) → name ≢ path → pointwise nat_eq name path ≡ false
other_path name path apart = false_from_ne_true _ (λ same. apart ((bytes_decides name path).0 same))

-- the file that was put is at its path
pub file_at-with_file : (files : Files) (path bytes : List ℕ) → file_at (with_file files path bytes) path ≡ Some bytes
file_at-with_file [] path bytes = rw (same_path path) refl
file_at-with_file (file ∷ files) path bytes =
    let later = file_at-with_file files path bytes in
    elim (cases_Bool (pointwise nat_eq file.0 path)) [
      | inl here ↦ rw here later
      | inr apart ↦ rw (apart, apart) later
    ]

-- at any other path is what was there
pub file_at-with_file_other : (files : Files) (path bytes other : List ℕ) → other ≢ path
    → file_at (with_file files path bytes) other ≡ file_at files other
file_at-with_file_other [] path bytes other apart = rw (other_path path other (λ same. apart (sym same))) refl
file_at-with_file_other (file ∷ files) path bytes other apart =
    let later = file_at-with_file_other files path bytes other apart in
    elim (cases_Bool (pointwise nat_eq file.0 path)) [
      | inl here ↦
          let not_other : pointwise nat_eq file.0 other ≡ false =
          other_path file.0 other (λ same. apart (sym same ∙ (bytes_decides file.0 path).0 here)) in
          rw (here, not_other) later
      | inr elsewhere ↦ rw elsewhere (ap (λ rest. cond (pointwise nat_eq file.0 other) (Some file.1) rest) later)
    ]
