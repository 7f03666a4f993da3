use Rattle.std.proofs.Common.{◌≡◌, ◌++◌, ◌∷◌, [], List, ℕ, ap, ◌∙◌, map, filter, nat_eq}
use Rattle.std.specs.Prelude.{not}
use Rattle.std.specs.Cmp.Lexicographic.{pointwise}
use Rattle.std.proofs.lemmas.List.{map-append}
use Rattle.io_edge.specs.Devices.{MemoryShelf}
use Rattle.io_edge.specs.Shelf.{Files, file_at, with_file}
use Rattle.io_edge.specs.declared.mem_shelf.File.{File}
use Rattle.io_edge.proofs.FileLemmas.{map-filter, file_at-with_file, file_at-with_file_other}
use Rattle.io_edge.proofs.mem_shelf.MemShelf.put.Goals as goal

-- what contracts see of a file
abbrev shown : File → (List ℕ) × (List ℕ)
shown file = (file.path.items, file.bytes.items)

-- the files without those at the path, and then one there
placed : (files kept new : List File) (file : File) (path : List ℕ) → new ≡ kept ++ file ∷ []
    → kept ≡ filter (λ file. not (pointwise nat_eq file.path.items path)) files → file.path.items ≡ path
    → map shown new ≡ with_file (map shown files) path file.bytes.items
placed files kept new file path pushed others at =
    let front = map-filter (λ known. not (pointwise nat_eq known.0 path)) shown files in
    ap (map shown) (pushed ∙ ap (λ items. items ++ file ∷ []) others)
    ∙ map-append shown (filter (λ file. not (pointwise nat_eq file.path.items path)) files) (file ∷ [])
    ∙ ap (λ items. items ++ shown file ∷ []) front
    ∙ ap (λ name. filter (λ known. not (pointwise nat_eq known.0 path)) (map shown files) ++ (name, file.bytes.items) ∷ []) at

-- where the copy is the path, the files are as they should be
files_are : (c : goal.After-unwrap)
    → map shown c.push.new.self.items ≡ with_file (map shown c.self.inside.files.items) c.args.path.now c.args.bytes.items
files_are c =
    let others = c.remove.ensures.others ∙ ap (filter (λ file. not (pointwise nat_eq file.path.items c.args.path.now))) c.in_ok-reserve.ensures.items in
    let pushed : c.push.new.self.items ≡ c.remove.new.files.items ++ record { path = c.in_ok-copy.copy; bytes = c.args.bytes } ∷ [] =
    rw c.unwrap.ensures at c.push.ensures.items in
    placed c.self.inside.files.items _ _ _ c.args.path.now pushed others (c.in_ok-copy.ensures.items_if_clones_equal (λ x y same. same))

pub returns-clause-ok : goal.returns-clause-ok
returns-clause-ok c =
    let shelf : Files → MemoryShelf = λ files. record { files = files; fails = c.self.inside.fails.items; calls = c.self.inside.calls; faults = c.self.inside.faults } in
    rw (← c.self.view_is) (ap shelf (files_are c))

pub returns-clause-here : goal.returns-clause-here
returns-clause-here c =
    ap (λ files. file_at files c.args.path.now) (files_are c)
    ∙ file_at-with_file (map shown c.self.inside.files.items) c.args.path.now c.args.bytes.items

pub returns-clause-others : goal.returns-clause-others
returns-clause-others c = λ other apart.
    ap (λ files. file_at files other) (files_are c)
    ∙ file_at-with_file_other (map shown c.self.inside.files.items) c.args.path.now c.args.bytes.items other apart
    ∙ ap (λ shelf. file_at shelf.files other) c.self.view_is
