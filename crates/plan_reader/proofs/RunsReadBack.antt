-- Runs that are written read back.
use Rattle.std.proofs.Common.{◌≡◌, ℕ, zero, suc, ◌+◌, ◌<◌, ◌≤◌, nat_le, true, false, if◌then◌else◌, List, [], ◌∷◌, ◌++◌, length, get_or, map, take, Some, Ok, refl, subst, arith, lt-ltb, le-leb}
use Rattle.std.specs.Prelude.{slice_get}
use Rattle.std.specs.List.{list_all}
use Rattle.std.proofs.lemmas.Bool.{and_parts}
use Rattle.std.proofs.lemmas.List.{map-append, take_more}
use Rattle.std.proofs.lemmas.List.Sums.{sum_by-cons, sum_by_more_le}
use Rattle.std.proofs.lemmas.Option.{slice_get_within, get_or_from_slice_get}
use Rattle.serde_json.specs.Data.{Data, array}
use Rattle.serde_json.specs.View.{view, items_of}
use Rattle.serde_json.specs.declared.value.Value.{Value}
use Rattle.json_fields.proofs.Members.{data_list-items_of}
use Rattle.json_fields.proofs.Walks.{both_steps}
use Rattle.ratios.specs.Ratio.{is_below, zero_ratio}
use Rattle.frac_core.specs.Text.{weight_of}
use Rattle.plan_model.specs.declared.step.Run.{Run}
use Rattle.plan_model.specs.Limits.{is_run}
use Rattle.plan_model.specs.Pieces.{piece_count}
use Rattle.plan_model.specs.Sizes.{max_pieces}
use Rattle.expr_text.specs.declared.fault.Limit.TheVariants as limit
use Rattle.expr_text.specs.declared.fault.Place.{Place}
use Rattle.expr_text.specs.Gives.{over}
use Rattle.plan_reader.specs.Runs.{max_times, run_in, run_of, pieces_with, runs_after, runs_in}
use Rattle.plan_reader.specs.Written.{RunReadsAs, RunsReadAs, run_data}

pub reads-run : (r : Run) (text : List ℕ) → is_run r ≡ true → r.times ≤ max_times → weight_of text ≡ Ok r.weight → RunReadsAs r (run_data text r.times)
unfolding run_in
reads-run r text h few is p =
    let parts = and_parts (is_below zero_ratio r.weight) (nat_le 1 r.times) h in
    rw (is, parts.0, parts.1, le-leb r.times max_times few) refl

-- ---- lists

pub is_run-at : (rs : List Run) (n : ℕ) (r : Run) → list_all is_run rs ≡ true → slice_get rs n ≡ Some r → is_run r ≡ true
is_run-at [] n r all found = cc
is_run-at (x ∷ rs) zero r all found =
    let same : x ≡ r = cc in rw (← same) (and_parts (is_run x) (list_all is_run rs) all).0
is_run-at (x ∷ rs) (suc n) r all found = is_run-at rs n r (and_parts (is_run x) (list_all is_run rs) all).1 found

pieces_with-sum : (p : Place) (before more n : ℕ) → pieces_with p before more ≡ Ok n → before + more ≡ n
pieces_with-sum p before more n e =
    elim (nat_le (before + more) max_pieces) as (λ b. (if b then Ok (before + more) else over p.step limit.Pieces) ≡ Ok n → before + more ≡ n) [
      | true ↦ λ same. cc
      | false ↦ λ same. cc
    ] e

one_before : (p : Place) (before : ℕ) (d : Data) (ds : List Data) (r : Run) (n : ℕ) (rs : List Run) →
    run_in p d ≡ Ok (r.weight, r.times) → pieces_with p before r.times ≡ Ok n → runs_after p n ds ≡ Ok rs → runs_after p before (d ∷ ds) ≡ Ok (r ∷ rs)
one_before p before d ds r n rs first pieces rest = rw (first, pieces, rest) refl

-- those that were walked, and then one run
runs_after-more : (p : Place) (before : ℕ) (ds : List Data) (d : Data) (rs : List Run) (r : Run) →
    runs_after p before ds ≡ Ok rs → run_in p d ≡ Ok (r.weight, r.times) → before + piece_count rs + r.times ≤ max_pieces → runs_after p before (ds ++ d ∷ []) ≡ Ok (rs ++ r ∷ [])
runs_after-more p before [] d rs r e last few =
    let none : [] ≡ rs = cc in
    let fits : before + r.times ≤ max_pieces = omega (arith, rw (← none) at few) in
    rw (← none, last, le-leb (before + r.times) max_pieces fits) refl
runs_after-more p before (c ∷ ds) d rs r e last few =
    let first = both_steps (run_in p c) _ rs e in
    let pieces = both_steps (pieces_with p before first.0.1) _ rs first.2 in
    let rest = both_steps (runs_after p pieces.0 ds) _ rs pieces.2 in
    let is : run_of first.0 ∷ rest.0 ≡ rs = (let end = rest.2 in cc) in
    let sum : before + first.0.1 ≡ pieces.0 = pieces_with-sum p before first.0.1 pieces.0 pieces.1 in
    let fits : before + piece_count (run_of first.0 ∷ rest.0) + r.times ≤ max_pieces = (rw (← is) at few) in
    let within : pieces.0 + piece_count rest.0 + r.times ≤ max_pieces = omega (arith, sum_by-cons (λ (x : Run). x.times) (run_of first.0) rest.0) in
    subst (λ ys. runs_after p before (c ∷ (ds ++ d ∷ [])) ≡ Ok (ys ++ r ∷ [])) is
    (one_before p before c (ds ++ d ∷ []) (run_of first.0) pieces.0 (rest.0 ++ r ∷ []) first.1 pieces.1
    (runs_after-more p pieces.0 ds d rest.0 r rest.1 last within))

-- the runs up to a place were written, and so is the next one
pub next_run_reads : (p : Place) (values : List Value) (rs : List Run) (n : ℕ) (v : Value) (r : Run) →
    slice_get rs n ≡ Some r → piece_count rs ≤ max_pieces → runs_after p 0 (map view values) ≡ Ok (take n rs) → run_in p (view v) ≡ Ok (r.weight, r.times) →
    runs_after p 0 (map view (values ++ v ∷ [])) ≡ Ok (take (n + 1) rs)
next_run_reads p values rs n v r found few read next =
    let within : n < length rs = slice_get_within rs n r found in
    let at : get_or rs n r ≡ r = get_or_from_slice_get rs n r r found in
    let fits : piece_count (take n rs) + r.times ≤ max_pieces = omega (arith, rw at at (sum_by_more_le (λ (x : Run). x.times) rs n r within)) in
    rw (map-append view values (v ∷ []), take_more rs n r within, at)
    (runs_after-more p 0 (map view values) (view v) (take n rs) r read next (omega (arith, fits)))

-- one value or more, each of which is walked as a run
pub reads-runs : (rs : List Run) (ds : List Data) → 0 < length ds → ((p : Place) → runs_after p 0 ds ≡ Ok rs) → RunsReadAs rs (array (items_of ds))
unfolding runs_in
reads-runs rs ds some read p = rw (data_list-items_of ds, lt-ltb 0 (length ds) some, read p) refl
