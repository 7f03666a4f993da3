-- Walks that come to their end.
use Rattle.std.proofs.Common.{◌≡◌, Result, Ok, Err, refl}
use Rattle.json_fields.specs.Walk.{◌>>=◌}

-- a walk of two steps that comes to its end
pub both_steps : {A B E : Type 0} (r : Result A E) (f : A → Result B E) (y : B) → (r >>= f) ≡ Ok y → (x : A) × (r ≡ Ok x) × (f x ≡ Ok y)
both_steps (Ok x) f y e = (x, refl, e)
both_steps (Err fault) f y e = cc
