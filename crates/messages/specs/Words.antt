-- The words for what names name.
use Rattle.std.specs.Prelude.{ℕ, List, codes}
use Rattle.messages.specs.declared.thing.Thing.{Thing}
use Rattle.messages.specs.declared.thing.Thing.TheVariants as thing

-- the word for what a name names
abbrev pub thing_word : Thing → List ℕ
thing_word thing.Source = codes "source"
thing_word thing.Plan = codes "plan"
