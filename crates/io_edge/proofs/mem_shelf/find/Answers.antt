use Rattle.std.proofs.Common.{◌≡◌, ◌+◌, ◌∷◌, List, ℕ, true, false, map, drop, get_or, ap, sym, ◌∙◌, cond, refl, nat_eq, ◌<◌, length}
use Rattle.std.specs.Prelude.{Option, Some}
use Rattle.std.specs.Cmp.Lexicographic.{pointwise}
use Rattle.std.proofs.lemmas.List.{at_drop_more}
use Rattle.io_edge.specs.Shelf.{file_at}
use Rattle.io_edge.specs.declared.mem_shelf.File.{File}
use Rattle.io_edge.proofs.mem_shelf.find.Goals as goal

-- the bytes of the first of the files at the path
abbrev found : List ℕ → List File → Option (List ℕ)
found path files = file_at (map (λ file. (file.path.items, file.bytes.items)) files) path

-- the first of the files from here on is this one, if its path is the path
step : (path : List ℕ) (files : List File) (i : ℕ) (item : File) → i < length files → item ≡ get_or files i item
    → found path (drop i files)
    ≡ cond (pointwise nat_eq item.path.items path) (Some item.bytes.items) (found path (drop (i + 1) files))
step path files i item inside is =
    at_drop_more (found path) files i item inside ∙ ap (λ file. found path (file ∷ drop (i + 1) files)) (sym is)

pub returns-then-eq : goal.returns-then-eq
returns-then-eq c =
    let item = c.file-item.result in
    let same : pointwise nat_eq item.path.items c.args.path.now ≡ true =
    rw (← c.as_slice.ensures.value) (sym c.if-eq.ensures) in
    let here : found c.args.path.now (drop c.loop-file.file-index c.args.files.now) ≡ Some item.bytes.items =
    step c.args.path.now c.args.files.now c.loop-file.file-index item c.loop-file-test.true c.file-item.is ∙ rw same refl in
    sym c.loop-file.invariant ∙ here ∙ ap Some (sym c.deref.ensures.value)

pub loop-file-preserved : goal.loop-file-preserved
loop-file-preserved c =
    let item = c.file-item.result in
    let other : pointwise nat_eq item.path.items c.args.path.now ≡ false =
    rw (← c.as_slice.ensures.value) (sym c.if-eq.ensures) in
    let later : found c.args.path.now (drop c.loop-file.file-index c.args.files.now)
    ≡ found c.args.path.now (drop (c.loop-file.file-index + 1) c.args.files.now) =
    step c.args.path.now c.args.files.now c.loop-file.file-index item c.loop-file-test.true c.file-item.is ∙ rw other refl in
    sym later ∙ c.loop-file.invariant
