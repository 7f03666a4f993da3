use Rattle.std.proofs.Common.{rules, ◌≡◌, ◌+◌, ◌≤◌, ap, sym, ◌∙◌, take, drop, arith, length, Some, length-take}
use Rattle.std.proofs.lemmas.List.{take-append-drop}
use Rattle.io_edge.specs.Shelf.{file_at}
use Rattle.io_edge.proofs.mem_shelf.MemShelfShelf.fetch.Goals as goal
use Rattle.io_edge.proofs.mem_shelf.MemShelfShelf.fetch.Goals.{in-None, in-Some+in-Ok, in-Some+in-Err, in-Some-2+in-Ok-extend_from_slice, in-Some-2+in-Err-extend_from_slice}

pub returns-clause-gives : goal.returns-clause-gives
returns-clause-gives c =
    elim c.match-find.branch [
      | in-None w ↦ search rules
      | in-Some+in-Ok w ↦
          let whole : w.extend_from_slice.new.self.items ≡ w.in-Some.bytes.now = search rules in
          let found : file_at c.args.self.now.files c.args.path.now ≡ Some w.in-Some.bytes.now = search rules in
          rw (w.result-is, w.into-is, whole) (w.if-bytes-max.true, found)
      | in-Some+in-Err w ↦ search rules
      | in-Some-2+in-Ok-extend_from_slice w ↦
          let front : w.extend_from_slice-in-Some-2.new.self.items ≡ take (c.args.max + 1) w.in-Some.bytes.now = search rules in
          let found : file_at c.args.self.now.files c.args.path.now ≡ Some w.in-Some.bytes.now = search rules in
          let long : c.args.max + 1 ≤ length w.in-Some.bytes.now = omega (arith, w.if-bytes-max.false) in
          rw (w.result-is, w.into-is, front) (
            length-take (c.args.max + 1) w.in-Some.bytes.now ∙ omega (arith, long),
            (
              drop (c.args.max + 1) w.in-Some.bytes.now,
              found ∙ ap Some (sym (take-append-drop (c.args.max + 1) w.in-Some.bytes.now)),
            ),
          )
      | in-Some-2+in-Err-extend_from_slice w ↦ search rules
    ]
