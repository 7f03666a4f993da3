-- What reading the digits of a text rests on.
use Rattle.std.proofs.Common.{ℕ, suc, [], ◌∷◌, ap, ◌∙◌, ◌++◌, Some, ◌+◌, ◌*◌, ◌-◌, ◌^◌, ◌≤◌, ◌<◌, ◌≡◌, List, length, take, get_or, true, ◌&&◌, nat_lt, nat_le, refl, sym, ap₂, arith}
use Rattle.std.specs.List.{list_all}
use Rattle.std.specs.Char.{digit_value, is_ascii_digit}
use Rattle.std.specs.Str.Parse.{AllDigits, digits_value, digits_value_after}
use Rattle.std.proofs.Math.Nat.{pow-le-pow_right, mul-le-mul}
use Rattle.std.proofs.lemmas.Nat.{pow-add}
use Rattle.std.proofs.lemmas.Bool.{and_parts}
use Rattle.std.proofs.lemmas.Bool.Decides.{nat_tests}
use Rattle.std.proofs.lemmas.Int.Digits.{digits_value-lt, digits_value_more}
use Rattle.std.proofs.lemmas.Str.Parse.{digit_at, digits_value-take-le}
use Rattle.numerals.specs.Numerals.{is_short_numeral}
use Rattle.numerals.proofs.Digits.{ascii_digits}
use Rattle.frac_core.specs.Text.{decimal_of}

-- what the test of 1 to 19 digits says
pub record IsShortNumeral (ds : List ℕ) : Type 0 where
  pub digits : AllDigits 10 ds
  pub some : 0 < length ds
  pub short : length ds ≤ 19

pub short_numeral : (ds : List ℕ) → is_short_numeral ds ≡ true → IsShortNumeral ds
short_numeral ds h =
    let p = and_parts (nat_lt 0 (length ds) && nat_le (length ds) 19) (list_all is_ascii_digit ds) h in
    let q = and_parts (nat_lt 0 (length ds)) (nat_le (length ds) 19) p.0 in
    let low : nat_lt 0 (length ds) ≡ true = q.0 in
    let high : nat_le (length ds) 19 ≡ true = q.1 in
    record { digits = ascii_digits.to ds p.1; some = grind (arith, nat_tests); short = grind (arith, nat_tests) }

pub short_numeral_test : (ds : List ℕ) → IsShortNumeral ds → is_short_numeral ds ≡ true
short_numeral_test ds h =
    let a = ascii_digits.from ds h.digits in
    let low : nat_lt 0 (length ds) ≡ true = (let k = h.some in grind (arith, nat_tests)) in
    let high : nat_le (length ds) 19 ≡ true = (let k = h.short in grind (arith, nat_tests)) in
    rw (low, high, a) refl

-- ---- the number of the digits
numeral_bound : (ds : List ℕ) → AllDigits 10 ds → length ds ≤ 19 → digits_value 10 ds < 10 ^ 19
numeral_bound ds h k =
    let a = digits_value-lt 10 ds h in
    let b : 10 ^ length ds ≤ 10 ^ 19 = pow-le-pow_right (omega arith) k in
    omega (arith, a, b)

digit_is : (c : ℕ) → 48 ≤ c → c ≤ 57 → digit_value c ≡ c - 48
digit_is c h k = grind (arith, nat_tests)

-- one more digit: the number so far is v
pub record IsDigitStep (ds : List ℕ) (i v : ℕ) : Type 0 where
  pub low : 48 ≤ get_or ds i 0
  pub high : get_or ds i 0 ≤ 57
  pub next : v * 10 + (get_or ds i 0 - 48) ≡ digits_value 10 (take (i + 1) ds)
  pub small : v * 10 + (get_or ds i 0 - 48) < 10 ^ 19

pub digit_step : (ds : List ℕ) (i v : ℕ) → is_short_numeral ds ≡ true → i < length ds → v ≡ digits_value 10 (take i ds) → IsDigitStep ds i v
digit_step ds i v s lt e =
    let k = short_numeral ds s in
    let r = digit_at ds i k.digits lt in
    let d = digit_is (get_or ds i 0) r.0 r.1 in
    let m = digits_value_more 10 ds i lt in
    let n : v * 10 + (get_or ds i 0 - 48) ≡ digits_value 10 (take (i + 1) ds) = omega (arith, e, d, m) in
    let t = digits_value-take-le 10 ds (i + 1) (omega arith) in
    record { low = r.0; high = r.1; next = n; small = omega (arith, n, t, numeral_bound ds k.digits k.short) }

pub digits_value_below : (ds : List ℕ) → is_short_numeral ds ≡ true → digits_value 10 ds < 10 ^ 19
digits_value_below ds s = let k = short_numeral ds s in numeral_bound ds k.digits k.short

-- ---- the digits before and after a point, as one number
digits_value_after-append : (n : ℕ) (xs ys : List ℕ) → digits_value_after 10 n (xs ++ ys) ≡ digits_value_after 10 (digits_value_after 10 n xs) ys
digits_value_after-append n [] ys = refl
digits_value_after-append n (x ∷ xs) ys = digits_value_after-append (n * 10 + digit_value x) xs ys

digits_value_after-is : (n : ℕ) (ys : List ℕ) → digits_value_after 10 n ys ≡ n * 10 ^ length ys + digits_value_after 10 0 ys
digits_value_after-is n [] = omega arith
digits_value_after-is n (y ∷ ys) =
    let a = digits_value_after-is (n * 10 + digit_value y) ys in
    let b = digits_value_after-is (0 * 10 + digit_value y) ys in
    let c : 10 ^ suc (length ys) ≡ 10 * 10 ^ length ys = omega arith in
    omega (arith, a, b, ap (λ t. n * t) c)

digits_value-append : (xs ys : List ℕ) → digits_value 10 (xs ++ ys) ≡ digits_value 10 xs * 10 ^ length ys + digits_value 10 ys
digits_value-append xs ys = digits_value_after-append 0 xs ys ∙ digits_value_after-is (digits_value 10 xs) ys

-- the numbers v and w of the digits, and the scale s
pub record IsDecimal (is fs : List ℕ) (v w s : ℕ) : Type 0 where
  pub small : v * s + w < 10 ^ 18
  pub numbers : Some (v * s + w, s) ≡ decimal_of is fs

pub decimal_numbers : (is fs : List ℕ) (v w s : ℕ) → is_short_numeral is ≡ true → is_short_numeral fs ≡ true → length is + length fs ≤ 18 →
    v ≡ digits_value 10 is → w ≡ digits_value 10 fs → s ≡ 10 ^ length fs → IsDecimal is fs v w s
decimal_numbers is fs v w s h k l e f g =
    let a = digits_value-lt 10 is (short_numeral is h).digits in
    let b = digits_value-lt 10 fs (short_numeral fs k).digits in
    let c : (v + 1) * s ≤ 10 ^ length is * 10 ^ length fs = mul-le-mul (omega (arith, a, e)) (omega (arith, g)) in
    let m = pow-add 10 (length is) (length fs) in
    let q : 10 ^ (length is + length fs) ≤ 10 ^ 18 = pow-le-pow_right (omega arith) l in
    let t : nat_le (length is + length fs) 18 ≡ true = grind (arith, nat_tests) in
    let z : v * s + w ≡ digits_value 10 (is ++ fs) = ap₂ (λ a b. a + b) (ap₂ (λ a b. a * b) e g) f ∙ sym (digits_value-append is fs) in
    record {
      small = omega (arith, b, c, m, q, f, g);
      numbers = ap₂ (λ n d. Some (n, d)) z g ∙ sym (rw (h, k, t) refl);
    }
