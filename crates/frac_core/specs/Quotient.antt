-- The fraction of two whole numbers.
use Rattle.std.specs.Prelude.{zero, ℤ, pos, Result, Err}
use Rattle.std.specs.Option.{ok_or}
use Rattle.ratios.specs.Ratio.{Ratio, ratio}
use Rattle.ratios.specs.Range.{checked}
use Rattle.frac_core.specs.declared.FracFault.{FracFault}
use Rattle.frac_core.specs.declared.FracFault.TheVariants.{ZeroDenominator, OutOfRange}

-- z / w, reduced, or the fault that keeps it out
abbrev pub quotient_of : ℤ → ℤ → Result Ratio FracFault
quotient_of z (pos zero) = Err ZeroDenominator
quotient_of z w = ok_or (checked (ratio z w)) OutOfRange
