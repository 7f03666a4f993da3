-- How often a device failed, before a call and after it.
use Rattle.std.specs.Prelude.{◌≡◌, ℕ, ◌-◌, ◌^◌, ◌<◌, ◌≤◌, ◌⊎◌, min, Result, Err, OnErr}
use Rattle.io_edge.specs.declared.shelf_fault.ShelfFault.{ShelfFault}
use Rattle.io_edge.specs.declared.shelf_fault.ShelfFault.TheVariants.{Failed}

-- the last value of a count of 64 bits
abbrev pub last_count : ℕ
last_count = 2 ^ 64 - 1

-- a count of 64 bits, which stands still at its last value
abbrev pub capped : ℕ → ℕ
capped count = min count last_count

-- the count rose in a call: it is greater after the call, or stands at its last value
abbrev pub Rose : ℕ → ℕ → Type 0
Rose before now = (before < now) ⊎ (now ≡ last_count)

-- the count of faults never falls, and a call fails only where it rose
pub record HasCause {T E : Type 0} (before now : ℕ) (result : Result T E) : Type 0 where
  pub later : before ≤ now
  pub failed : OnErr result (Rose before now)

-- the same of a shelf, only one of whose errors is its own fault
pub record ShelfHasCause {T : Type 0} (before now : ℕ) (result : Result T ShelfFault) : Type 0 where
  pub later : before ≤ now
  pub failed : result ≡ Err Failed → Rose before now
