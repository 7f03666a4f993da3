-- How many lines of the demo aren't empty.
use Rattle.std.proofs.Common.{◌≡◌, ◌≢◌, ◌==◌, ℕ, zero, suc, ◌+◌, ◌*◌, ◌<◌, ◌≤◌, ◌^◌, List, [], ◌∷◌, ◌++◌, length, true, false, cond, refl, sym, ap, ap₂, ◌∙◌, subst, arith, lit≤}
use Rattle.std.specs.Prelude.{codes, count_by, decimal, min, nat_lt, not}
use Rattle.std.specs.Char.{digit_value}
use Rattle.std.specs.List.{All, flat_map, list_all, range_with_len}
use Rattle.std.specs.Str.Parse.{AllDigits}
use Rattle.std.proofs.lemmas.Bool.{lt-ltb}
use Rattle.std.proofs.lemmas.Fmt.{decimal_is_IsNumeral}
use Rattle.std.proofs.lemmas.List.Elements.{All-append}
use Rattle.std.proofs.lemmas.List.Sums.{AllPass-from_list_all, sum_by-append}
use Rattle.line_runs.specs.Lines.{Lines, WholeLines, open_line, whole_lines, without_cr}
use Rattle.line_runs.proofs.LineLemmas.{not_lf, open_line-plain, whole_lines-lf, whole_lines-plain, without_cr-long}
use Rattle.demo_input.specs.declared.edges.Block.{Block}
use Rattle.demo_input.specs.Demo.{block_lines, blocks_of, degrees_line, demo_questions, demo_setup, demo_text, edge_line, line, neighbour, offset_lines, pair_lines, paths_line, source_line}
use Rattle.demo_input.proofs.DemoLines.{IsClosed, IsClosed-append, IsClosed-line, IsClosed-questions, Lines-closed, WholeLines-closed}

-- no byte of the text is an LF
record IsPlain (text : List ℕ) : Type 0 where
  plain : All (λ byte. byte ≢ 10) text

-- a text whose bytes are tested is plain
IsPlain-tested : (text : List ℕ) → list_all (λ byte. not (byte == 10)) text ≡ true → IsPlain text
IsPlain-tested text passed = record {
  plain = λ k none within at.
      let no : true ≡ false = sym (AllPass-from_list_all (λ byte. not (byte == 10)) text passed k none within) ∙ ap (λ byte. not (byte == 10)) at in
      cc;
}

-- plain texts make a plain text
IsPlain-append : (first second : List ℕ) → IsPlain first → IsPlain second → IsPlain (first ++ second)
IsPlain-append first second a b = record { plain = All-append (λ byte. byte ≢ 10) first second a.plain b.plain }

-- digits are no LF
digits_tested : (digits : List ℕ) → AllDigits 10 digits → list_all (λ byte. not (byte == 10)) digits ≡ true
digits_tested [] each = refl
digits_tested (digit ∷ digits) each =
    let other : digit ≢ 10 = λ at. let no : digit_value 10 < 10 = subst (λ d. digit_value d < 10) at each.0 in omega arith in
    rw (not_lf digit other) (digits_tested digits each.1)

-- a number's text is plain
IsPlain-decimal : (n : ℕ) → n < 2 ^ 64 → IsPlain (decimal n)
IsPlain-decimal n small = IsPlain-tested (decimal n) (digits_tested (decimal n) (decimal_is_IsNumeral n small).0.1)

-- the text is closed, and so many of its lines aren't empty
pub record HasLines (text : List ℕ) (count : ℕ) : Type 0 where
  pub ended : IsClosed text
  pub counted : count_by (λ l. nat_lt 0 (length l)) (WholeLines text) ≡ count

-- such lines of two texts are added up
HasLines-append : (first second : List ℕ) (m n : ℕ) → HasLines first m → HasLines second n → HasLines (first ++ second) (m + n)
HasLines-append first second m n a b = record {
  ended = IsClosed-append first second a.ended b.ended;
  counted = ap (count_by (λ l. nat_lt 0 (length l))) (WholeLines-closed first second a.ended)
      ∙ sum_by-append (λ l. cond (nat_lt 0 (length l)) 1 0) (WholeLines first) (WholeLines second) ∙ ap₂ (λ x y. x + y) a.counted b.counted;
}

-- a plain text and its LF are one line, which isn't empty where the text has two bytes
HasLines-line : (text : List ℕ) → IsPlain text → 2 ≤ length text → HasLines (line text) 1
unfolding line
HasLines-line text clean long = record {
  ended = IsClosed-line text;
  counted =
      let some : nat_lt 0 (length (without_cr text)) ≡ true = lt-ltb 0 (length (without_cr text)) (omega (arith, without_cr-long text)) in
      rw (whole_lines-lf [] text, whole_lines-plain [] text clean.plain, open_line-plain [] text clean.plain, some) refl;
}

-- an update is one line
HasLines-edge : (from to : ℕ) → from < 2 ^ 64 → to < 2 ^ 64 → HasLines (edge_line from to) 1
unfolding edge_line
HasLines-edge from to small_from small_to =
    HasLines-line _
    (IsPlain-append (codes "{\"op\":\"update\",\"source\":\"edges\",\"csv\":\"" ++ decimal from ++ codes "," ++ decimal to) (codes ",1\"}")
    (IsPlain-append (codes "{\"op\":\"update\",\"source\":\"edges\",\"csv\":\"" ++ decimal from ++ codes ",") (decimal to)
    (IsPlain-append (codes "{\"op\":\"update\",\"source\":\"edges\",\"csv\":\"" ++ decimal from) (codes ",")
    (IsPlain-append (codes "{\"op\":\"update\",\"source\":\"edges\",\"csv\":\"") (decimal from) (IsPlain-tested _ refl) (IsPlain-decimal from small_from))
    (IsPlain-tested _ refl)) (IsPlain-decimal to small_to)) (IsPlain-tested _ refl))
    (omega arith)

-- texts of as many lines for each number
HasLines-range : (f : ℕ → List ℕ) (each first n : ℕ) → ((i : ℕ) → first ≤ i → i < first + n → HasLines (f i) each)
    → HasLines (flat_map f (range_with_len first n)) (n * each)
unfolding open_line whole_lines
HasLines-range f each first zero has =
    let none : 0 ≡ 0 * each = omega arith in
    subst (λ count. HasLines [] count) none (record { ended = record { closed = refl }; counted = refl })
HasLines-range f each first (suc n) has =
    let more : each + n * each ≡ suc n * each = omega arith in
    subst (λ count. HasLines (flat_map f (range_with_len first (suc n))) count) more
    (HasLines-append (f first) (flat_map f (range_with_len (first + 1) n)) each (n * each) (has first (omega arith) (omega arith))
    (HasLines-range f each (first + 1) n (λ i low high. has i (omega arith) (omega arith))))

-- a block's updates: two for each of its nodes at each of its offsets
HasLines-block : (block : Block) → block.base + block.size ≤ 500 → HasLines (block_lines block) (block.offsets * (block.size * 2))
unfolding block_lines offset_lines
HasLines-block block within =
    HasLines-range (offset_lines block) (block.size * 2) 1 block.offsets (λ offset low high.
    HasLines-range (λ i. pair_lines i (neighbour block offset i)) 2 block.base block.size (λ i from to.
    let small_i : i < 2 ^ 64 = omega arith in
    let small_j : neighbour block offset i < 2 ^ 64 = omega arith in
    HasLines-append (edge_line i (neighbour block offset i)) (edge_line (neighbour block offset i) i) 1 1
    (HasLines-edge i (neighbour block offset i) small_i small_j) (HasLines-edge (neighbour block offset i) i small_j small_i)))

-- the source and the plans are three lines
HasLines-declared : HasLines (source_line ++ degrees_line ++ paths_line) 3
unfolding source_line degrees_line paths_line line whole_lines open_line
HasLines-declared = record { ended = record { closed = refl }; counted = refl }

-- the questions are three lines
HasLines-questions : HasLines demo_questions 3
unfolding demo_questions line whole_lines
HasLines-questions = record { ended = IsClosed-questions; counted = refl }

-- the updates of four blocks
HasLines-blocks : (n : ℕ) → HasLines (flat_map block_lines (blocks_of n)) (2 * (50 * n + 100 * min n 5 + 150 * min n 2 + 200))
unfolding open_line whole_lines
HasLines-blocks n =
    let first : Block = record { base = 0; size = 50; offsets = n } in
    let second : Block = record { base = 50; size = 100; offsets = min n 5 } in
    let third : Block = record { base = 150; size = 150; offsets = min n 2 } in
    let fourth : Block = record { base = 300; size = 200; offsets = 1 } in
    let none : HasLines [] 0 = record { ended = record { closed = refl }; counted = refl } in
    let all : n * (50 * 2) + (min n 5 * (100 * 2) + (min n 2 * (150 * 2) + (1 * (200 * 2) + 0))) ≡ 2 * (50 * n + 100 * min n 5 + 150 * min n 2 + 200) = omega arith in
    subst (λ count. HasLines (flat_map block_lines (blocks_of n)) count) all
    (HasLines-append (block_lines first) _ (n * (50 * 2)) _ (HasLines-block first (lit≤ tt))
    (HasLines-append (block_lines second) _ (min n 5 * (100 * 2)) _ (HasLines-block second (lit≤ tt))
    (HasLines-append (block_lines third) _ (min n 2 * (150 * 2)) _ (HasLines-block third (lit≤ tt))
    (HasLines-append (block_lines fourth) [] (1 * (200 * 2)) 0 (HasLines-block fourth (lit≤ tt)) none))))

-- the whole demo
HasLines-text : (n : ℕ) → HasLines (demo_text n) (3 + 2 * (50 * n + 100 * min n 5 + 150 * min n 2 + 200) + 3)
unfolding demo_setup
HasLines-text n =
    HasLines-append (demo_setup n) demo_questions (3 + 2 * (50 * n + 100 * min n 5 + 150 * min n 2 + 200)) 3
    (HasLines-append (source_line ++ degrees_line ++ paths_line) (flat_map block_lines (blocks_of n)) 3 (2 * (50 * n + 100 * min n 5 + 150 * min n 2 + 200)) HasLines-declared (HasLines-blocks n))
    HasLines-questions

-- the lines of a demo that aren't empty
pub full_lines-text : (n : ℕ)
    → count_by (λ l. nat_lt 0 (length l)) (Lines (demo_text n)) ≡ 6 + 2 * (50 * n + 100 * min n 5 + 150 * min n 2 + 200)
full_lines-text n =
    let has = HasLines-text n in
    let all : 3 + 2 * (50 * n + 100 * min n 5 + 150 * min n 2 + 200) + 3 ≡ 6 + 2 * (50 * n + 100 * min n 5 + 150 * min n 2 + 200) = omega arith in
    ap (count_by (λ l. nat_lt 0 (length l))) (Lines-closed (demo_text n) has.ended) ∙ has.counted ∙ all
