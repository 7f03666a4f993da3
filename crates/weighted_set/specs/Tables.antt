-- Tables by row, of which one entry changes or some rows are touched.
use Rattle.std.specs.Prelude.{◌≡◌, ℕ, false, if◌then◌else◌, IfSome, List, [], Option}
use Rattle.std.specs.Map.{lookup}
use Rattle.datasets.specs.Entries.{Row, has_row, same_row}

-- the row x is found with o, and every other row with what it had
abbrev pub FindsAt : {V : Type 0} → Row → Option V → List (Row × V) → List (Row × V) → Type 0
FindsAt x o old new =
    (q : Row) → lookup (same_row q) new ≡ (if same_row x q then o else lookup (same_row q) old)

-- every row other than x is found with what it had
abbrev pub OthersStay : {V : Type 0} → Row → List (Row × V) → List (Row × V) → Type 0
OthersStay x old new =
    (q : Row) → same_row x q ≡ false → lookup (same_row q) new ≡ lookup (same_row q) old

-- every row that is found, and is none of these, is found with a value of P
abbrev pub AllBut : {V : Type 0} → (V → Type 0) → List Row → List (Row × V) → Type 0
AllBut P touched es = (x : Row) → has_row touched x ≡ false → IfSome (lookup (same_row x) es) P

-- where no row is touched, the list of touched rows takes no memory
abbrev pub GivesBack : List Row → ℕ → Type 0
GivesBack touched capacity = touched ≡ [] → capacity ≡ 0
