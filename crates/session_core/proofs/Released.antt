-- Weights that are released with noise, one after another.
use Rattle.std.proofs.Common.{◌≡◌, ◌<◌, ◌≤◌, ℕ, ◌+◌, List, [], ◌∷◌, ◌++◌, refl, sym, ap, ap₂, ◌∙◌, arith, length, length-append, take, get_or, Option, Err}
use Rattle.std.specs.Prelude.{All, ℤ}
use Rattle.std.specs.declared.alloc.AllocError.{AllocError}
use Rattle.std.proofs.lemmas.List.{length-take-le, map-append, take_more}
use Rattle.std.proofs.lemmas.List.Elements.{All-nil, All-push}
use lib.ListN.{length-map}
use Rattle.io_edge.specs.Known.{Gains}
use Rattle.io_edge.proofs.KnownLemmas.{Gains-append, Gains-none}
use Rattle.ratios.specs.Ratio.{Ratio}
use Rattle.request_machine.specs.Stages.{release, released}
use Rattle.session_core.specs.Draws.{Draws, numbers}

-- as many weights as numbers, and one more of each
released-more : (weights : List Ratio) (ns : List ℤ) (w : Ratio) (n : ℤ) → length ns ≡ length weights
    → released (weights ++ w ∷ []) (ns ++ n ∷ []) ≡ released weights ns ++ release w n ∷ []
released-more [] [] w n same = refl
released-more [] (m ∷ ns) w n same = absurd (omega arith)
released-more (v ∷ weights) [] w n same = absurd (omega arith)
released-more (v ∷ weights) (m ∷ ns) w n same = ap (λ (values : List ℤ). release v m ∷ values) (released-more weights ns w n (omega (arith, same)))

-- the first weights are released, with a pair drawn for each
pub record ReleasedBefore (before now : Option (List (ℕ × ℤ))) (faults_before faults_now epsilon : ℕ) (weights : List Ratio) (at : ℕ) (values : List ℤ) : Type 0 where
  pub given : List (ℕ × ℤ)
  pub drawn : Gains before now given
  pub each : All (λ (pair : ℕ × ℤ). pair.0 ≡ epsilon) given
  pub count : length given ≡ at
  pub within : at ≤ length weights
  pub values_are : values ≡ released (take at weights) (numbers given)
  pub later : faults_before ≤ faults_now

pub ReleasedBefore-none : (known : Option (List (ℕ × ℤ))) (faults epsilon : ℕ) (weights : List Ratio) → ReleasedBefore known known faults faults epsilon weights 0 []
ReleasedBefore-none known faults epsilon weights = record {
  given = [];
  drawn = Gains-none known;
  each = All-nil (λ (pair : ℕ × ℤ). pair.0 ≡ epsilon);
  count = refl;
  within = omega arith;
  values_are = refl;
  later = omega arith;
}

module _ (before mid now : Option (List (ℕ × ℤ))) (faults_before faults_mid faults_now epsilon : ℕ) (weights : List Ratio) (at : ℕ) (values : List ℤ)
    (h : ReleasedBefore before mid faults_before faults_mid epsilon weights at values) where
  -- one weight more
  pub ReleasedBefore-more : (w : Ratio) (n : ℤ) (more : List ℤ) → at < length weights → get_or weights at w ≡ w → Gains mid now ((epsilon, n) ∷ []) → faults_mid ≤ faults_now
      → more ≡ values ++ release w n ∷ [] → ReleasedBefore before now faults_before faults_now epsilon weights (at + 1) more
  ReleasedBefore-more w n more lt is drawn later pushed =
      let size : length (take at weights) ≡ at = length-take-le at weights (omega (arith, lt)) in
      let count : length (numbers h.given) ≡ length (take at weights) = length-map h.given (λ (pair : ℕ × ℤ). pair.1) ∙ h.count ∙ sym size in
      record {
        given = h.given ++ (epsilon, n) ∷ [];
        drawn = Gains-append before mid now h.given ((epsilon, n) ∷ []) h.drawn drawn;
        each = All-push (λ (pair : ℕ × ℤ). pair.0 ≡ epsilon) h.given (epsilon, n) h.each refl;
        count = length-append h.given ((epsilon, n) ∷ []) ∙ ap (λ k. k + 1) h.count;
        within = omega (arith, lt);
        values_are =
            pushed ∙ ap (λ (vs : List ℤ). vs ++ release w n ∷ []) h.values_are
            ∙ sym (released-more (take at weights) (numbers h.given) w n count)
            ∙ ap₂ (λ (ws : List Ratio) (ns : List ℤ). released ws ns)
            (sym (take_more weights at w lt ∙ ap (λ (v : Ratio). take at weights ++ v ∷ []) is))
            (sym (map-append (λ (pair : ℕ × ℤ). pair.1) h.given ((epsilon, n) ∷ [])));
        later = omega (arith, h.later, later);
      }

  -- no memory for a value, after its number was drawn
  pub Draws-stopped : (n : ℤ) (e : AllocError) → at < length weights → Gains mid now ((epsilon, n) ∷ []) → faults_mid ≤ faults_now
      → Draws before now faults_before faults_now epsilon weights (Err e)
  Draws-stopped n e lt drawn later = record {
    given = h.given ++ (epsilon, n) ∷ [];
    drawn = Gains-append before mid now h.given ((epsilon, n) ∷ []) h.drawn drawn;
    each = All-push (λ (pair : ℕ × ℤ). pair.0 ≡ epsilon) h.given (epsilon, n) h.each refl;
    releases = omega (arith, lt, h.count, length-append h.given ((epsilon, n) ∷ []));
    later = omega (arith, h.later, later);
    failed = λ is. cc;
  }
