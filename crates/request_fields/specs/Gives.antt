-- What a reader returns, beside what the text denotes.
use Rattle.std.specs.Prelude.{◌≡◌, ⊤, Result, Ok, Err}
use Rattle.messages.specs.declared.refusal.Refusal.{Refusal}
use Rattle.messages.specs.declared.read_fault.ReadFault.{ReadFault}
use Rattle.messages.specs.declared.read_fault.ReadFault.TheVariants as fault

-- want of memory may come at any place, and else the refusal is the one that is denoted
abbrev pub Fails : {A : Type 0} → ReadFault → Result A Refusal → Type 0
Fails fault.Memory denoted = ⊤
Fails (fault.Refused refusal) denoted = denoted ≡ Err refusal

-- what was returned is what is denoted, unless there was no memory
abbrev pub Gives : {A : Type 0} → Result A ReadFault → Result A Refusal → Type 0
Gives (Ok x) denoted = denoted ≡ Ok x
Gives (Err e) denoted = Fails e denoted

-- the same, where the value is seen by `view`
abbrev pub GivesBy : {X A : Type 0} → (X → A) → Result X ReadFault → Result A Refusal → Type 0
GivesBy view (Ok x) denoted = denoted ≡ Ok (view x)
GivesBy view (Err e) denoted = Fails e denoted
