-- What a writer of values returns.
use Rattle.std.specs.Prelude.{◌≡◌, IfOk, Result}
use Rattle.std.specs.declared.alloc.AllocError.{AllocError}
use Rattle.serde_json.specs.Data.{Data}
use Rattle.serde_json.specs.View.{view}
use Rattle.serde_json.specs.declared.value.Value.{Value}

-- the value is this, unless there was no memory
abbrev pub Shows : Result Value AllocError → Data → Type 0
Shows written d = IfOk written (λ value. view value ≡ d)
