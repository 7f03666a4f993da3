-- What a run over lines has to know of one line's answer.
use Rattle.std.proofs.Common.{◌≡◌, ℕ, List, ◌<◌, refl, ap, sym, subst, ◌∙◌, inl, inr, length, lt-ltb, map}
use Rattle.std.specs.Prelude.{ℤ, Err, Option, Result}
use Rattle.io_edge.specs.Shelf.{Files}
use Rattle.request_text.specs.Requests.{request_on}
use Rattle.reply_text.specs.Replies.{reply_line}
use Rattle.messages.specs.declared.refusal.Refusal.{Refusal}
use Rattle.messages.specs.declared.refusal.Refusal.TheVariants as refusal
use Rattle.messages.specs.declared.request.Request.{Request}
use Rattle.request_machine.specs.Fetches.{Fetched, MayFetch, Nothing}
use Rattle.request_machine.specs.Stages.{MayTake, Stage, finished}
use Rattle.request_machine.specs.State.{State}
use Rattle.request_machine.specs.Machine.{Answers, GaveUp, Stepped, answered, memory_line, stage, step}

pub Answers-stepped : (files : Option Files) (old : State) (line : List ℕ) (given : List (ℕ × ℤ)) (fetched : Fetched) (reply : List ℕ) (new : State)
    → Stepped files old line given fetched reply new → Answers files old line given reply new
unfolding Answers
Answers-stepped files old line given fetched reply new h = inl (fetched, h)

pub Answers-gave_up : (files : Option Files) (old : State) (line : List ℕ) (given : List (ℕ × ℤ)) (new : State)
    → GaveUp old line given new → Answers files old line given memory_line new
unfolding Answers
Answers-gave_up files old line given new h = inr (refl, h)

-- a line over the limit is refused, whatever stands in it
pub long_request : (line : List ℕ) → 1048576 < length line → request_on line ≡ Err refusal.Line
unfolding request_on
long_request line long = rw (lt-ltb 1048576 (length line) long) refl

-- overlong lines ask for the same
same_request : (line other : List ℕ) → 1048576 < length line → 1048576 < length other → request_on line ≡ request_on other
same_request line other long other_long = long_request line long ∙ sym (long_request other other_long)

-- so they come to the same
same_stage : (state : State) (line other : List ℕ) (fetched : Fetched) → 1048576 < length line → 1048576 < length other
    → stage state line fetched ≡ stage state other fetched
unfolding stage
same_stage state line other fetched long other_long =
    ap (λ request. answered state request fetched) (same_request line other long other_long)

-- and are all answered alike
pub Answers-overlong : (files : Option Files) (old : State) (line other : List ℕ) (given : List (ℕ × ℤ)) (reply : List ℕ) (new : State)
    → 1048576 < length line → 1048576 < length other → Answers files old line given reply new → Answers files old other given reply new
unfolding Answers step
Answers-overlong files old line other given reply new long other_long (inl h) =
    let same = same_stage old line other h.0 long other_long in
    inl (
      h.0,
      record {
        may_fetch = subst (λ (asked : Result Request Refusal). MayFetch files asked h.0) (same_request line other long other_long) h.1.may_fetch;
        may_take = subst (λ (s : Stage). MayTake s given) same h.1.may_take;
        stepped =
            h.1.stepped
            ∙ ap (λ (s : Stage). let outcome = finished old s (map (λ (pair : ℕ × ℤ). pair.1) given) in (outcome.0, reply_line outcome.1)) same;
      },
    )
Answers-overlong files old line other given reply new long other_long (inr h) =
    inr (
      h.0,
      record {
        may_take = subst (λ (s : Stage). MayTake s given) (same_stage old line other Nothing long other_long) h.1.may_take;
        unchanged = h.1.unchanged;
      },
    )
