-- A sum of ratios is the same in any order, and may be taken in parts.
use Rattle.std.proofs.Common.{◌+◌, ◌*◌, ◌<◌, ◌≡◌, List, [], ◌∷◌, ◌++◌, map, fold, sum_by, IsPermutation, ℤ, pos, ◌+ℤ◌, ◌*ℤ◌, refl, sym, ap, ◌∙◌, subst, arith, mul-pos}
use Rattle.std.proofs.lemmas.List.Sums.{sum_by-cons}
use Rattle.std.proofs.lemmas.Int.{ints}
use Rattle.std.proofs.lemmas.List.Sorted.{IsPermutation-map, sum_by-IsPermutation}
use borrow.Author.Differences.{up, down}
use Rattle.ratios.specs.Ratio.{Ratio, ratio_add, zero_ratio}
use Rattle.ratios.specs.Sums.{ratio_sum}
use Rattle.ratios.proofs.Over.{IsOver, over_scaled, over_itself, over_as, same_over}
use Rattle.ratios.proofs.Additive.{ratio_add_assoc, ratio_add_zero, ratio_zero_add}
use Rattle.ratios.proofs.Scale.{at_scale, over_fold, common_denominator, common_denominator_positive, AllDivide-common_denominator, AllDivide, AllDivide-mul}

-- ---- in parts
-- what a sum begins with may be added last
pub fold_from : (q : Ratio) (ws : List Ratio) → fold ratio_add q ws ≡ ratio_add q (ratio_sum ws)
fold_from q [] = sym (ratio_add_zero q)
fold_from q (w ∷ ws) =
    fold_from (ratio_add q w) ws ∙ ratio_add_assoc q w (ratio_sum ws)
    ∙ ap (ratio_add q) (sym (fold_from w ws) ∙ ap (λ t. fold ratio_add t ws) (sym (ratio_zero_add w)))

pub ratio_sum-cons : (w : Ratio) (ws : List Ratio) → ratio_sum (w ∷ ws) ≡ ratio_add w (ratio_sum ws)
ratio_sum-cons w ws = ap (λ t. fold ratio_add t ws) (ratio_zero_add w) ∙ fold_from w ws

fold-append : (q : Ratio) (xs ys : List Ratio) → fold ratio_add q (xs ++ ys) ≡ fold ratio_add (fold ratio_add q xs) ys
fold-append q [] ys = refl
fold-append q (x ∷ xs) ys = fold-append (ratio_add q x) xs ys

pub ratio_sum-append : (xs ys : List Ratio) → ratio_sum (xs ++ ys) ≡ ratio_add (ratio_sum xs) (ratio_sum ys)
ratio_sum-append xs ys = fold-append zero_ratio xs ys ∙ fold_from (ratio_sum xs) ys

-- ---- in any order: the sums of whole numbers first
abbrev sum_from : ℤ → List ℤ → ℤ
sum_from z zs = fold (λ t u. t +ℤ u) z zs

sum_parts : (z : ℤ) (zs : List ℤ) → up (sum_from z zs) + down z + sum_by down zs ≡ down (sum_from z zs) + up z + sum_by up zs
sum_parts z [] = omega arith
sum_parts z (y ∷ zs) = let h = sum_parts (z +ℤ y) zs in let a = sum_by-cons up y zs in let b = sum_by-cons down y zs in omega (arith, ints)

same_whole : (a b : ℤ) → up a + down b ≡ up b + down a → a ≡ b
same_whole a b h = omega (arith, ints)

whole_permuted : (z : ℤ) (xs ys : List ℤ) → IsPermutation xs ys → sum_from z xs ≡ sum_from z ys
whole_permuted z xs ys p =
    let a = sum_parts z xs in
    let b = sum_parts z ys in
    let c = sum_by-IsPermutation up xs ys p in
    let d = sum_by-IsPermutation down xs ys p in
    same_whole (sum_from z xs) (sum_from z ys) (omega arith)

pub fold_permuted : (q : Ratio) (xs ys : List Ratio) → IsPermutation xs ys → fold ratio_add q xs ≡ fold ratio_add q ys
fold_permuted q xs ys p =
    let m = common_denominator xs in
    let n = common_denominator ys in
    let d = q.den * (m * n) in
    let pm = common_denominator_positive xs in
    let pn = common_denominator_positive ys in
    let pd : 0 < d = mul-pos q.positive (mul-pos pm pn) in
    let hx : AllDivide d xs = subst (λ t. AllDivide t xs) (omega arith) (AllDivide-mul m (q.den * n) xs (AllDivide-common_denominator xs)) in
    let hy : AllDivide d ys = subst (λ t. AllDivide t ys) (omega arith) (AllDivide-mul n (q.den * m) ys (AllDivide-common_denominator ys)) in
    let o : IsOver (q.num *ℤ pos (m * n)) d q = over_scaled q.num q.den (m * n) q (mul-pos pm pn) (over_itself q) in
    same_over (sum_from (q.num *ℤ pos (m * n)) (map (at_scale d) xs)) d (fold ratio_add q xs) (fold ratio_add q ys)
    (over_fold d pd _ q xs o hx)
    (over_as _ _ d _ (over_fold d pd _ q ys o hy) (sym (whole_permuted (q.num *ℤ pos (m * n)) (map (at_scale d) xs) (map (at_scale d) ys) (IsPermutation-map (at_scale d) xs ys p))))

pub ratio_sum_permuted : (xs ys : List Ratio) → IsPermutation xs ys → ratio_sum xs ≡ ratio_sum ys
ratio_sum_permuted xs ys p = fold_permuted zero_ratio xs ys p
