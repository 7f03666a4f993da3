-- Ratios are totally ordered, and only equal ones tie.
use Rattle.std.specs.Prelude.{ℕ, ◌*◌, ◌≡◌, Bool, true, false, cond, ℤ, pos, ◌*ℤ◌, ◌≤ℤ◌, ◌<ℤ◌, int_lt}
use Rattle.std.specs.Cmp.{IsTotalOrder}
use Rattle.std.specs.Ordering.{int_cmp, is_eq, MatchOrdering}
use Rattle.std.specs.declared.cmp.Ordering.{Ordering}
use Rattle.std.specs.declared.cmp.Ordering.TheVariants.{Less, Equal, Greater}
use Rattle.std.proofs.Common.{true≢false, refl, sym, ap, ap₂, subst, ◌∙◌, arith, mul-pos}
use Rattle.std.proofs.lemmas.Int.{ints, by_lt_z}
use Rattle.std.proofs.lemmas.Cmp.{int_cmp_total, int_ranked, tied_itself}
use Rattle.ratios.specs.Ratio.{Ratio, ratio_cmp}
use Rattle.ratios.specs.Code.{same_parts}
use Rattle.ratios.proofs.Over.{IsOver, over_itself, over_scaled, common, cross_from_whole, same_cross, whole_from_cross}

-- whole numbers a, b and c with q = a / d, r = b / d and s = c / d
pub record Three (q r s : Ratio) : Type 0 where
  pub d : ℕ
  pub a : ℤ
  pub b : ℤ
  pub c : ℤ
  pub first : IsOver a d q
  pub second : IsOver b d r
  pub third : IsOver c d s

pub three : (q r s : Ratio) → Three q r s
three q r s =
    let u = common q r in
    let e : s.den * (q.den * r.den) ≡ (q.den * r.den) * s.den = omega arith in
    record {
      d = (q.den * r.den) * s.den;
      a = (q.num *ℤ pos r.den) *ℤ pos s.den;
      b = (r.num *ℤ pos q.den) *ℤ pos s.den;
      c = s.num *ℤ pos (q.den * r.den);
      first = over_scaled _ _ s.den q s.positive u.0;
      second = over_scaled _ _ s.den r s.positive u.1;
      third = subst (λ n. IsOver (s.num *ℤ pos (q.den * r.den)) n s) e (over_scaled s.num s.den (q.den * r.den) s (mul-pos q.positive r.positive) (over_itself s));
    }

-- ---- over one denominator, ratios compare as their whole numbers do
lt_true : (a b : ℤ) → a <ℤ b → true ≡ int_lt a b
lt_true a b h = omega (arith, ints)

lt_false : (a b : ℤ) → b ≤ℤ a → false ≡ int_lt a b
lt_false a b h = omega (arith, ints)

same_lt : (a b z y : ℤ) → (a <ℤ b → z <ℤ y) → (b ≤ℤ a → y ≤ℤ z) → int_lt a b ≡ int_lt z y
same_lt a b z y f g = by_lt_z a b (λ h. sym (lt_true a b h) ∙ lt_true z y (f h)) (λ h. sym (lt_false a b h) ∙ lt_false z y (g h))

lt_not_le : (a b : ℤ) → a <ℤ b → ¬ (b ≤ℤ a)
lt_not_le a b h k = omega (arith, ints)

pub lt_over : (z y : ℤ) (d : ℕ) (q r : Ratio) → IsOver z d q → IsOver y d r → (q.num *ℤ pos r.den) <ℤ (r.num *ℤ pos q.den) → z <ℤ y
lt_over z y d q r h k lt = by_lt_z z y (λ t. t) (λ t. absurd (lt_not_le (q.num *ℤ pos r.den) (r.num *ℤ pos q.den) lt (cross_from_whole y z d r q k h t)))

pub cmp_over : (z y : ℤ) (d : ℕ) (q r : Ratio) → IsOver z d q → IsOver y d r → ratio_cmp q r ≡ int_cmp z y
cmp_over z y d q r h k =
    let x = same_lt (q.num *ℤ pos r.den) (r.num *ℤ pos q.den) z y (lt_over z y d q r h k) (whole_from_cross y z d r q k h) in
    let w = same_lt (r.num *ℤ pos q.den) (q.num *ℤ pos r.den) y z (lt_over y z d r q k h) (whole_from_cross z y d q r h k) in
    ap₂ (λ s t. cond s Less (cond t Greater Equal)) x w

pub ratio_cmp_total : IsTotalOrder ratio_cmp
ratio_cmp_total = record {
  antisymm = λ q r. int_cmp_total.antisymm (q.num *ℤ pos r.den) (r.num *ℤ pos q.den);
  trans = λ q r s.
      let t = three q r s in
      let ab = cmp_over t.a t.b t.d q r t.first t.second in
      let bc = cmp_over t.b t.c t.d r s t.second t.third in
      let ac = cmp_over t.a t.c t.d q s t.first t.third in
      λ h k. ac ∙ int_cmp_total.trans t.a t.b t.c (sym ab ∙ h) (sym bc ∙ k);
  congr = λ q r s.
      let t = three q r s in
      let ab = cmp_over t.a t.b t.d q r t.first t.second in
      let bc = cmp_over t.b t.c t.d r s t.second t.third in
      let ac = cmp_over t.a t.c t.d q s t.first t.third in
      λ h. ac ∙ int_cmp_total.congr t.a t.b t.c (sym ab ∙ h) ∙ sym bc;
}

-- ---- only equal ratios tie
same_from_int_tie : (a b : ℤ) → int_cmp a b ≡ Equal → a ≡ b
same_from_int_tie a b h = let m : MatchOrdering Equal (a <ℤ b) (a ≡ b) (b <ℤ a) = int_ranked a b Equal (sym h) in m

pub same_from_tie : (q r : Ratio) → ratio_cmp q r ≡ Equal → q ≡ r
same_from_tie q r h = same_cross q r (same_from_int_tie (q.num *ℤ pos r.den) (r.num *ℤ pos q.den) h)

-- ---- testing both parts decides a tie
no_tie_is_false : (o : Ordering) → ¬ (o ≡ Equal) → false ≡ is_eq o
no_tie_is_false Less n = refl
no_tie_is_false Equal n = absurd (n refl)
no_tie_is_false Greater n = refl

pub true_at_same_parts : (q r : Ratio) → q.num ≡ r.num → q.den ≡ r.den → true ≡ is_eq (ratio_cmp q r)
true_at_same_parts q r e f = ap is_eq (sym (tied_itself ratio_cmp_total r)) ∙ ap (λ t. is_eq (ratio_cmp t r)) (sym (same_parts q r e f))

pub false_at_other_parts : (q r : Ratio) → ¬ ((q.num ≡ r.num) × (q.den ≡ r.den)) → false ≡ is_eq (ratio_cmp q r)
false_at_other_parts q r n = no_tie_is_false (ratio_cmp q r) (λ h. let e = same_from_tie q r h in n (ap (λ (t : Ratio). t.num) e, ap (λ (t : Ratio). t.den) e))

pub parts_test_is : (q r : Ratio) (b : Bool) → (b ≡ true → (q.num ≡ r.num) × (q.den ≡ r.den)) → (b ≡ false → ¬ ((q.num ≡ r.num) × (q.den ≡ r.den))) → b ≡ is_eq (ratio_cmp q r)
parts_test_is q r true f g = true_at_same_parts q r (f refl).0 (f refl).1
parts_test_is q r false f g = false_at_other_parts q r (g refl)

-- two rank the same where the test says so
pub tie_from_test : (o : Ordering) → is_eq o ≡ true → o ≡ Equal
tie_from_test Less e = absurd (true≢false (sym e))
tie_from_test Equal e = refl
tie_from_test Greater e = absurd (true≢false (sym e))

-- `a == b` is true only of equal ratios
pub same_from_eq : (q r : Ratio) → is_eq (ratio_cmp q r) ≡ true → q ≡ r
same_from_eq q r e = same_from_tie q r (tie_from_test (ratio_cmp q r) e)
