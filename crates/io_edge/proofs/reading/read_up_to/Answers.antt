use Rattle.std.proofs.Common.{◌≡◌, ◌+◌, ◌<◌, ◌≤◌, ◌++◌, [], ℕ, List, length, take, arith, ap, ◌∙◌, length-take}
use Rattle.std.specs.Prelude.{Option, None, Some, IfSome}
use Rattle.std.specs.Option.{option_map}
use Rattle.std.proofs.lemmas.List.{take_all}
use Rattle.io_edge.proofs.reading.read_up_to.Goals as goal

-- what is shorter than the limit is all
all_below : (known : Option (List ℕ)) (limit : ℕ) (old into : List ℕ) → old ≡ [] → length into < limit
    → IfSome (option_map (take limit) known) (λ front. into ≡ old ++ front) → IfSome known (λ bytes. into ≡ bytes)
all_below None limit old into empty short taken = tt
all_below (Some bytes) limit old into empty short taken =
    let front : into ≡ take limit bytes = rw empty at taken in
    let few : length bytes ≤ limit = omega (arith, length-take limit bytes, ap length front) in
    front ∙ take_all limit bytes few

pub returns-in-Ok-clause-whole : goal.returns-in-Ok-clause-whole
returns-in-Ok-clause-whole g c =
    let few : length c.read_to_end.new.buf.items < c.args.max + 1 = omega (arith, c.in-Ok.ensures.ok, c.if-count-max.true, c.read_to_end.new.buf.ok, c.args.into.now.ok, ap length c.requires.empty) in
    all_below (g.R.Read.remaining c.args.reader) (c.args.max + 1) _ _ c.requires.empty few
    (rw (c.take.ensures.inner, c.take.ensures.limit) at c.in-Ok.ensures.bytes)
