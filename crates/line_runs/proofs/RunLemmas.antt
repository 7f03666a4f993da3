-- Runs one after another.
use Rattle.std.proofs.Common.{◌≡◌, ℕ, List, [], ◌∷◌, ◌++◌, refl, ap, sym, ◌∙◌, append_assoc, subst, append-nil, ◌<◌, ◌+◌, arith, length, cond, true}
use Rattle.std.specs.Prelude.{count_by, nat_lt}
use Rattle.std.proofs.lemmas.List.Sums.{sum_by-cons}
use Rattle.std.proofs.lemmas.Bool.{lt-ltb}
use Rattle.std.specs.Prelude.{ℤ}
use Rattle.line_runs.specs.Runs.{Answering, Run}

-- no line changes nothing
pub Run-nil : {State : Type 0} (answers : Answering State) (state : State) → Run answers state [] [] [] state
unfolding Run
Run-nil answers state = (refl, refl, refl)

-- a run that begins where another ended makes one run with it
pub Run-append : {State : Type 0} (answers : Answering State) (old middle new : State) (first second : List (List ℕ))
    (given more_given : List (ℕ × ℤ)) (replies more_replies : List (List ℕ))
    → Run answers old first given replies middle → Run answers middle second more_given more_replies new
    → Run answers old (first ++ second) (given ++ more_given) (replies ++ more_replies) new
unfolding Run
Run-append answers old middle new [] second given more_given replies more_replies run more =
    rw (run.0, run.1) (subst (λ state. Run answers state second more_given more_replies new) run.2 more)
Run-append answers old middle new (line ∷ first) second given more_given replies more_replies run more = (
  run.0,
  run.1 ++ more_given,
  run.2,
  run.3 ++ more_replies,
  run.4,
  ap (λ all. all ++ more_given) run.5 ∙ append_assoc run.0 run.1 more_given,
  ap (λ all. all ++ more_replies) run.6 ∙ append_assoc run.2 run.3 more_replies,
  run.7,
  Run-append answers run.4 middle new first second run.1 more_given run.3 more_replies run.8 more,
)

-- one more line, which is not empty
pub Run-answered : {State : Type 0} (answers : Answering State) (old middle new : State) (lines : List (List ℕ)) (byte : ℕ) (line : List ℕ)
    (given more_given : List (ℕ × ℤ)) (replies : List (List ℕ)) (reply : List ℕ)
    → Run answers old lines given replies middle → answers middle (byte ∷ line) more_given reply new
    → Run answers old (lines ++ (byte ∷ line) ∷ []) (given ++ more_given) (replies ++ reply ∷ []) new
unfolding Run
Run-answered answers old middle new lines byte line given more_given replies reply run answer =
    Run-append answers old middle new lines ((byte ∷ line) ∷ []) given more_given replies (reply ∷ []) run
    (more_given, [], reply ∷ [], [], new, sym (append-nil more_given), refl, (reply, refl, answer), (refl, refl, refl))

-- one more line, which is empty
pub Run-empty : {State : Type 0} (answers : Answering State) (old middle : State) (lines : List (List ℕ))
    (given : List (ℕ × ℤ)) (replies : List (List ℕ))
    → Run answers old lines given replies middle → Run answers old (lines ++ [] ∷ []) given replies middle
unfolding Run
Run-empty answers old middle lines given replies run =
    let more : Run answers middle ([] ∷ []) [] [] middle =
    ([], [], [], [], middle, refl, refl, (refl, refl, refl), (refl, refl, refl)) in
    rw (← append-nil given, ← append-nil replies) (Run-append answers old middle middle lines ([] ∷ []) given [] replies [] run more)

-- two lines that are answered alike
pub Run-same : {State : Type 0} (answers : Answering State) (old new : State) (line other : List ℕ) (given : List (ℕ × ℤ)) (replies : List (List ℕ))
    → 0 < length line → 0 < length other
    → ((state : State) (noise : List (ℕ × ℤ)) (reply : List ℕ) (next : State) → answers state line noise reply next → answers state other noise reply next)
    → Run answers old (line ∷ []) given replies new → Run answers old (other ∷ []) given replies new
unfolding Run
Run-same answers old new [] other given replies some other_some alike run = absurd (omega arith)
Run-same answers old new (byte ∷ line) [] given replies some other_some alike run = absurd (omega arith)
Run-same answers old new (byte ∷ line) (other_byte ∷ other) given replies some other_some alike run =
    (run.0, run.1, run.2, run.3, run.4, run.5, run.6, (run.7.0, run.7.1, alike old run.0 run.7.0 run.4 run.7.2), run.8)

-- a run over lines that are cut somewhere is two runs
pub Run-split : {State : Type 0} (answers : Answering State) (old new : State) (first second : List (List ℕ))
    (given : List (ℕ × ℤ)) (replies : List (List ℕ)) → Run answers old (first ++ second) given replies new
    → (first_given : List (ℕ × ℤ)) × (second_given : List (ℕ × ℤ))
    × (first_replies : List (List ℕ)) × (second_replies : List (List ℕ)) × (middle : State)
    × (given ≡ first_given ++ second_given) × (replies ≡ first_replies ++ second_replies)
    × Run answers old first first_given first_replies middle
    × Run answers middle second second_given second_replies new
unfolding Run
Run-split answers old new [] second given replies run =
    ([], given, [], replies, old, refl, refl, (refl, refl, refl), run)
Run-split answers old new (line ∷ first) second given replies run =
    let cut = Run-split answers run.4 new first second run.1 run.3 run.8 in (
      run.0 ++ cut.0,
      cut.1,
      run.2 ++ cut.2,
      cut.3,
      cut.4,
      run.5 ∙ ap (λ all. run.0 ++ all) cut.5 ∙ sym (append_assoc run.0 cut.0 cut.1),
      run.6 ∙ ap (λ all. run.2 ++ all) cut.6 ∙ sym (append_assoc run.2 cut.2 cut.3),
      (run.0, cut.0, run.2, cut.2, run.4, refl, refl, run.7, cut.7),
      cut.8,
    )

-- what an empty line's run says
pub Run-silent : {State : Type 0} (answers : Answering State) (old new : State) (given : List (ℕ × ℤ)) (replies : List (List ℕ))
    → Run answers old ([] ∷ []) given replies new → (given ≡ []) × (replies ≡ []) × (new ≡ old)
unfolding Run
Run-silent answers old new given replies run =
    (run.5 ∙ rw (run.7.0, run.8.0) refl, run.6 ∙ rw (run.7.1, run.8.1) refl, run.8.2 ∙ run.7.2)

-- an empty line runs so
pub Run-silent_from : {State : Type 0} (answers : Answering State) (old new : State) (given : List (ℕ × ℤ)) (replies : List (List ℕ))
    → (given ≡ []) × (replies ≡ []) × (new ≡ old) → Run answers old ([] ∷ []) given replies new
unfolding Run
Run-silent_from answers old new given replies same =
    ([], [], [], [], old, same.0, same.1, (refl, refl, refl), (refl, refl, same.2))

-- what the run of a line that isn't empty says
pub Run-one : {State : Type 0} (answers : Answering State) (old new : State) (line : List ℕ) (given : List (ℕ × ℤ)) (replies : List (List ℕ))
    → 0 < length line → Run answers old (line ∷ []) given replies new
    → (reply : List ℕ) × (replies ≡ reply ∷ []) × answers old line given reply new
unfolding Run
Run-one answers old new [] given replies some run = absurd (omega arith)
Run-one answers old new (byte ∷ line) given replies some run = (
  run.7.0,
  run.6 ∙ rw (run.7.1, run.8.1) refl,
  rw (run.5, run.8.0, append-nil run.0, run.8.2) run.7.2,
)

-- a line that isn't empty runs as it is answered
pub Run-one_from : {State : Type 0} (answers : Answering State) (old new : State) (line : List ℕ) (given : List (ℕ × ℤ)) (replies : List (List ℕ))
    → 0 < length line → ((reply : List ℕ) × (replies ≡ reply ∷ []) × answers old line given reply new)
    → Run answers old (line ∷ []) given replies new
unfolding Run
Run-one_from answers old new [] given replies some answer = absurd (omega arith)
Run-one_from answers old new (byte ∷ line) given replies some answer =
    (given, [], replies, [], new, sym (append-nil given), sym (append-nil replies), answer, (refl, refl, refl))

-- there are as many replies as lines that aren't empty
pub Run-counted : {State : Type 0} (answers : Answering State) (old new : State) (lines : List (List ℕ))
    (given : List (ℕ × ℤ)) (replies : List (List ℕ)) → Run answers old lines given replies new
    → length replies ≡ count_by (λ line. nat_lt 0 (length line)) lines
unfolding Run
Run-counted answers old new [] given replies run = rw run.1 refl
Run-counted answers old new ([] ∷ lines) given replies run =
    let rest = Run-counted answers run.4 new lines run.1 run.3 run.8 in
    rw (run.6, run.7.1) rest
Run-counted answers old new ((byte ∷ line) ∷ lines) given replies run =
    let rest = Run-counted answers run.4 new lines run.1 run.3 run.8 in
    let some : nat_lt 0 (length (byte ∷ line)) ≡ true = lt-ltb 0 (length (byte ∷ line)) (omega arith) in
    let more : length (run.7.0 ∷ run.3) ≡ 1 + length run.3 = omega arith in
    rw (run.6, run.7.1, more, rest, sum_by-cons (λ l. cond (nat_lt 0 (length l)) 1 0) (byte ∷ line) lines, some) refl
