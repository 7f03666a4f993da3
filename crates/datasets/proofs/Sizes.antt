-- No term of a norm or a distance is below 0.
use Rattle.std.specs.Prelude.{List, [], ◌∷◌, map, All}
use Rattle.std.proofs.Common.{arith}
use Rattle.std.proofs.lemmas.List.Elements.{All-cons}
use Rattle.ratios.specs.Ratio.{Ratio, ◌≼◌, ratio_abs, zero_ratio}
use Rattle.ratios.specs.Sums.{ratio_sum}
use Rattle.ratios.proofs.Field.{abs_nonneg}
use Rattle.ratios.proofs.Totals.{total-nonneg}

-- absolute values are not below 0
pub abs_nonnegative : {X : Type 0} (f : X → Ratio) (xs : List X) → All (λ q. zero_ratio ≼ q) (map (λ x. ratio_abs (f x)) xs)
abs_nonnegative f [] = λ k d lt. absurd (omega arith)
abs_nonnegative f (x ∷ xs) = All-cons (λ q. zero_ratio ≼ q) (ratio_abs (f x)) (map (λ x. ratio_abs (f x)) xs) (abs_nonneg (f x)).le (abs_nonnegative f xs)

-- nor is their sum
pub sum_nonnegative : {X : Type 0} (f : X → Ratio) (xs : List X) → zero_ratio ≼ ratio_sum (map (λ x. ratio_abs (f x)) xs)
sum_nonnegative f xs = (total-nonneg (λ x. ratio_abs (f x)) xs (λ x. abs_nonneg (f x))).le
