-- The pieces of runs, run by run.
use Rattle.std.specs.Prelude.{ℕ, zero, suc, ◌+◌, ◌-◌, ◌<◌, ◌≤◌, ◌≡◌, true, List, [], ◌∷◌, ◌++◌, drop, length, nat_le, replicate, slice_get, Some, take, refl}
use Rattle.std.specs.List.{list_all}
use Rattle.std.proofs.Common.{arith, sym, ap, ap₂, ◌∙◌, true≢false}
use Rattle.std.proofs.lemmas.Bool.{and_parts}
use Rattle.std.proofs.lemmas.List.{append-nil, length-append, length-replicate, replicate-append-replicate, take-append-drop}
use Rattle.std.proofs.lemmas.List.Concat.{flat_map-append}
use Rattle.std.proofs.lemmas.List.Sums.{sum_by-cons}
use Rattle.datasets.proofs.Members.{AllByRecursion-append}
use Rattle.ratios.specs.Ratio.{Ratio, is_below, zero_ratio}
use Rattle.record_text.proofs.Lists.{front_more, passes_at, rest_from}
use Rattle.plan_model.specs.Evaluation.{pieces}
use Rattle.plan_model.specs.Limits.{is_run}
use Rattle.plan_model.specs.Pieces.{piece_count}
use Rattle.plan_model.specs.declared.step.Run.{Run}
use Rattle.op_shave.proofs.Above.{AllAbove}

-- ---- one run
pub run_split : (f : Ratio) (n i : ℕ) → i < n → replicate n f ≡ replicate i f ++ f ∷ replicate (n - i - 1) f
run_split f n i below =
    let e : n ≡ i + suc (n - i - 1) = omega arith in ap (λ n. replicate n f) e ∙ sym (replicate-append-replicate i (suc (n - i - 1)) f)

first_of : (n : ℕ) (f : Ratio) → nat_le 1 n ≡ true → replicate n f ≡ f ∷ replicate (n - 1) f
first_of zero f h = absurd (true≢false (sym h))
first_of (suc n) f h = let e : n ≡ suc n - 1 = omega arith in ap (λ m. f ∷ replicate m f) e

AllAbove-replicate : (n : ℕ) (f : Ratio) → is_below zero_ratio f ≡ true → AllAbove (replicate n f)
AllAbove-replicate zero f h = tt
AllAbove-replicate (suc n) f h = (h, AllAbove-replicate n f h)

-- ---- runs
abbrev run_pieces : Run → List Ratio
run_pieces run = replicate run.times run.weight

pub AllAbove-pieces : (runs : List Run) → list_all is_run runs ≡ true → AllAbove (pieces runs)
AllAbove-pieces [] h = tt
AllAbove-pieces (run ∷ runs) h =
    let p = and_parts (is_run run) (list_all is_run runs) h in
    let q = and_parts (is_below zero_ratio run.weight) (nat_le 1 run.times) p.0 in
    AllByRecursion-append (λ f. is_below zero_ratio f ≡ true) (run_pieces run) (pieces runs) (AllAbove-replicate run.times run.weight q.0) (AllAbove-pieces runs p.1)

pub length-pieces : (runs : List Run) → length (pieces runs) ≡ piece_count runs
length-pieces [] = refl
length-pieces (run ∷ runs) =
    length-append (run_pieces run) (pieces runs) ∙ ap₂ (λ m n. m + n) (length-replicate run.times run.weight) (length-pieces runs) ∙ sym (sum_by-cons (λ run. run.times) run runs)

module _ (runs : List Run) (i : ℕ) (run : Run) (is : slice_get runs i ≡ Some run) where
  -- the pieces of one run more
  pub pieces_more : pieces (take (i + 1) runs) ≡ pieces (take i runs) ++ replicate run.times run.weight
  pieces_more = ap pieces (front_more runs i run is) ∙ flat_map-append run_pieces (take i runs) (run ∷ []) ∙ ap (λ fs. pieces (take i runs) ++ fs) (append-nil (run_pieces run))

  -- before the run, its own, and after it
  pub pieces_split : pieces runs ≡ pieces (take i runs) ++ (replicate run.times run.weight ++ pieces (drop (i + 1) runs))
  pieces_split =
      ap pieces (sym (take-append-drop i runs)) ∙ flat_map-append run_pieces (take i runs) (drop i runs) ∙ ap (λ rs. pieces (take i runs) ++ pieces rs) (rest_from runs i run is)

  -- they are no more than all together
  pub pieces_fit : (n : ℕ) → n ≡ length (pieces (take i runs)) → n + run.times ≤ piece_count runs
  pieces_fit n e =
      let back = pieces (drop (i + 1) runs) in
      omega (arith, e, ap length pieces_split, length-pieces runs, length-append (pieces (take i runs)) (run_pieces run ++ back), length-append (run_pieces run) back, length-replicate run.times run.weight)

  -- a run has a first piece
  pub first_piece : list_all is_run runs ≡ true → replicate run.times run.weight ≡ run.weight ∷ replicate (run.times - 1) run.weight
  first_piece h = first_of run.times run.weight (and_parts (is_below zero_ratio run.weight) (nat_le 1 run.times) (passes_at is_run runs i run is h)).1
