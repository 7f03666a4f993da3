-- The forms of a text, by its first byte and by its first slash.
use Rattle.std.proofs.Common.{ℕ, ◌+◌, ◌-◌, ◌≤◌, ◌<◌, ◌≡◌, ◌≢◌, List, [], ◌∷◌, ◌++◌, length, take, drop, get_or, cond, ◌==◌, nat_lt, true, false, refl, ap, ap₂, ◌∙◌, arith, length-append, length-drop, Some, None, Err}
use Rattle.std.specs.Prelude.{slice_index, position}
use Rattle.std.specs.Option.{is_some, option_zip}
use Rattle.std.specs.List.{before_first, after_first, position_or_len}
use Rattle.std.specs.Str.Parse.{AllDigits}
use Rattle.frac_core.specs.declared.FracFault.TheVariants.{BadText}
use Rattle.std.proofs.Math.Seq.{take_all, take-append_seam, get_or-append_seam, drop-append-add}
use Rattle.std.proofs.lemmas.List.{get_or_append_left}
use Rattle.std.proofs.lemmas.Bool.Decides.{nat_tests}
use Rattle.std.proofs.lemmas.Str.Parse.{digit_at}
use Rattle.std.proofs.lemmas.List.Sums.{position_or_len_is}
use Rattle.frac_core.specs.Text.{digits_of, is_slash, is_point, whole_of, parts_by_slash, decimal_of, decimal_or_whole, unsigned_of, signed_quotient, weight_of}

-- `&text[k..]`
pub rest_is : (bs : List ℕ) (k : ℕ) → take (length bs - k) (drop k bs) ≡ drop k bs
rest_is bs k = take_all (length bs - k) (drop k bs) (simp length-drop (omega arith))

-- ---- the sign
pub weight_of-minus : (bs : List ℕ) → slice_index bs 0 ≡ 45 → weight_of bs ≡ signed_quotient true (unsigned_of (drop 1 bs))
unfolding weight_of
weight_of-minus bs e =
    let t : (slice_index bs 0 == 45) ≡ true = grind (arith, nat_tests) in
    ap (λ b. signed_quotient b (unsigned_of (cond b (drop 1 bs) (drop (cond (slice_index bs 0 == 43) 1 0) bs)))) t

pub weight_of-plus : (bs : List ℕ) → slice_index bs 0 ≡ 43 → weight_of bs ≡ signed_quotient false (unsigned_of (drop 1 bs))
unfolding weight_of
weight_of-plus bs e =
    let t : (slice_index bs 0 == 45) ≡ false = grind (arith, nat_tests) in
    let u : (slice_index bs 0 == 43) ≡ true = grind (arith, nat_tests) in
    ap₂ (λ b c. signed_quotient b (unsigned_of (cond b (drop 1 bs) (drop (cond c 1 0) bs)))) t u

pub weight_of-plain : (bs : List ℕ) → slice_index bs 0 ≢ 45 → slice_index bs 0 ≢ 43 → weight_of bs ≡ signed_quotient false (unsigned_of bs)
unfolding weight_of
weight_of-plain bs e f =
    let t : (slice_index bs 0 == 45) ≡ false = grind (arith, nat_tests) in
    let u : (slice_index bs 0 == 43) ≡ false = grind (arith, nat_tests) in
    ap₂ (λ b c. signed_quotient b (unsigned_of (cond b (drop 1 bs) (drop (cond c 1 0) bs)))) t u

pub weight_of-empty : (bs : List ℕ) → length bs ≡ 0 → weight_of bs ≡ Err BadText
unfolding weight_of
weight_of-empty [] e = refl
weight_of-empty (b ∷ bs) e = absurd (omega arith)

-- ---- the mark m, a byte below the digits
digit_is_no_mark : (m b : ℕ) → m < 48 → 48 ≤ b → (b == m) ≡ false
digit_is_no_mark m b l h = grind (arith, nat_tests)

no_mark_in : (m : ℕ) (ds : List ℕ) → m < 48 → AllDigits 10 ds → (k : ℕ) → k < length ds → (get_or ds k 0 == m) ≡ false
no_mark_in m ds l h k lt = digit_is_no_mark m (get_or ds k 0) l (digit_at ds k h lt).0

mark_in_digits : (m : ℕ) (ds : List ℕ) → m < 48 → AllDigits 10 ds → position_or_len (λ b. b == m) ds ≡ length ds
mark_in_digits m ds l h = position_or_len_is (λ b. b == m) ds (length ds) 0 (omega arith) (no_mark_in m ds l h) (λ k. absurd (omega arith))

same_byte : (m : ℕ) → (m == m) ≡ true
same_byte m = grind (arith, nat_tests)

mark_after_digits : (m : ℕ) (ds t : List ℕ) → m < 48 → AllDigits 10 ds → position_or_len (λ b. b == m) (ds ++ m ∷ t) ≡ length ds
mark_after_digits m ds t l h =
    position_or_len_is (λ b. b == m) (ds ++ m ∷ t) (length ds) 0 (simp length-append (omega arith))
    (λ k lt. ap (λ b. b == m) (get_or_append_left ds (m ∷ t) 0 k lt) ∙ no_mark_in m ds l h k lt)
    (λ _. ap (λ b. b == m) (get_or-append_seam ds m t 0) ∙ same_byte m)

-- digits have no mark
no_place_in_digits : (m : ℕ) (ds : List ℕ) → m < 48 → AllDigits 10 ds → is_some (position (λ b. b == m) ds) ≡ false
no_place_in_digits m ds l h =
    let e = mark_in_digits m ds l h in
    let t : nat_lt (position_or_len (λ b. b == m) ds) (length ds) ≡ false = grind (arith, nat_tests) in
    ap (λ b. is_some (cond b (Some (position_or_len (λ b. b == m) ds)) None)) t

place_after_digits : (m : ℕ) (ds t : List ℕ) → m < 48 → AllDigits 10 ds → is_some (position (λ b. b == m) (ds ++ m ∷ t)) ≡ true
place_after_digits m ds t l h =
    let bs = ds ++ m ∷ t in
    let e = mark_after_digits m ds t l h in
    let n : length (ds ++ m ∷ t) ≡ length ds + length (m ∷ t) = length-append ds (m ∷ t) in
    let x : nat_lt (position_or_len (λ b. b == m) (ds ++ m ∷ t)) (length (ds ++ m ∷ t)) ≡ true = grind (arith, nat_tests) in
    ap (λ b. is_some (cond b (Some (position_or_len (λ b. b == m) bs)) None)) x

pub unsigned_of-digits : (ds : List ℕ) → AllDigits 10 ds → unsigned_of ds ≡ whole_of ds
unsigned_of-digits ds h =
    let s = no_place_in_digits 47 ds (omega arith) h in
    let p = no_place_in_digits 46 ds (omega arith) h in
    ap (λ b. cond b (parts_by_slash ds) (decimal_or_whole ds)) s
    ∙ ap (λ b. cond b (decimal_of (before_first is_point ds) (after_first is_point ds)) (whole_of ds)) p

pub unsigned_of-slash : (ds t : List ℕ) → AllDigits 10 ds → unsigned_of (ds ++ 47 ∷ t) ≡ option_zip (digits_of ds) (digits_of t)
unsigned_of-slash ds t h =
    let bs = ds ++ 47 ∷ t in
    let e = mark_after_digits 47 ds t (omega arith) h in
    let b : before_first is_slash bs ≡ ds = ap (λ k. take k bs) e ∙ take-append_seam ds (47 ∷ t) in
    let a : after_first is_slash bs ≡ t = ap (λ k. drop (k + 1) bs) e ∙ drop-append-add ds (47 ∷ t) 1 in
    ap (λ b. cond b (parts_by_slash bs) (decimal_or_whole bs)) (place_after_digits 47 ds t (omega arith) h)
    ∙ ap₂ (λ m n. option_zip (digits_of m) (digits_of n)) b a
