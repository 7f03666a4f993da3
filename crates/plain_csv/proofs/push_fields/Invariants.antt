use Rattle.std.proofs.Common.{◌≡◌, ◌++◌, length, map}
use Rattle.plain_csv.specs.Plain.{plain_fields}
use Rattle.plain_csv.proofs.push_fields.Given as goal

abbrev pub invariant-loop-end : goal.invariant-loop-end
invariant-loop-end l = map (λ field. field.now) l.fields.items ++ plain_fields l.rest ≡ map (λ field. field.now) l.fn.fields.items ++ plain_fields l.line

abbrev pub decreases-loop-end : goal.decreases-loop-end
decreases-loop-end l = length l.rest
