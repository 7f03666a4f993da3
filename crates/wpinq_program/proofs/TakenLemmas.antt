-- What a read, a write or a draw leaves told.
use Rattle.std.proofs.Common.{ℕ, List, [], length, ◌≤◌, ap, arith, length-append}
use Rattle.std.specs.Prelude.{Option, None, Some}
use Rattle.io_edge.specs.Known.{Loses, IsUsedUp}

-- what was used up stays so where nothing is lost
pub IsUsedUp-still : {A : Type 0} (old new : Option (List A)) → IsUsedUp old → Loses old new [] → IsUsedUp new
IsUsedUp-still None None up left = tt
IsUsedUp-still None (Some new) up left = absurd left
IsUsedUp-still (Some old) None up left = tt
IsUsedUp-still (Some old) (Some new) up left = cc

-- no more was taken than was left
pub taken_within : (bytes taken : List ℕ) (after : Option (List ℕ)) → Loses (Some bytes) after taken → length taken ≤ length bytes
taken_within bytes taken None left = absurd left
taken_within bytes taken (Some rest) left = omega (arith, ap length left, length-append taken rest)
