use Rattle.std.proofs.Common.{◌≡◌, ℕ, ◌<◌, ◌≤◌, true, List, length, get_or, eqb, inl, inr, refl, ap, sym, subst, ◌∙◌, arith}
use Rattle.std.specs.Prelude.{Contains, vec_len}
use Rattle.std.proofs.lemmas.Bool.{eqb-true}
use Rattle.std.proofs.lemmas.List.{drop_all}
use Rattle.io_edge.specs.Devices.{MemoryNoise}
use Rattle.io_edge.proofs.mem_noise.MemNoiseNoise.draw.Goals as goal
use Rattle.io_edge.proofs.mem_noise.MemNoiseNoise.draw.Goals.{then-at-len-via-then-at-len, then-at-len-via-else-at-len+then-contains}

-- the call that was found is listed
listed : (list fails : List ℕ) (call calls : ℕ) → list ≡ fails → call ≡ calls
    → (x : ℕ) × (x < length list) × ((d : ℕ) → eqb (get_or list x d) call ≡ true) → Contains fails calls
listed list fails call calls same is found = (
  found.0,
  subst (λ (l : List ℕ). found.0 < length l) same found.1,
  sym (ap (λ (l : List ℕ). get_or l found.0 calls) same) ∙ eqb-true _ _ (found.2 calls) ∙ is,
)

-- nothing is left once as many were given as there are
pub returns-then-at-len-clause-fails : goal.returns-then-at-len-clause-fails
returns-then-at-len-clause-fails c =
    let left = ap (λ (n : MemoryNoise). n.left) c.self.view_is in
    let fails = ap (λ (n : MemoryNoise). n.fails) c.self.view_is in
    let calls = ap (λ (n : MemoryNoise). n.calls) c.self.view_is in (
      λ failed.
          elim c.then-at-len.branch [
            | then-at-len-via-then-at-len w ↦
                let all : length c.self.inside.numbers.items ≤ vec_len c.self.inside.given = omega (arith, c.self.inside.numbers.ok.0) in
                inl (sym left ∙ drop_all _ _ all)
            | then-at-len-via-else-at-len+then-contains w ↦
                inr (listed _ _ _ _ (w.deref.ensures.value ∙ fails) calls w.if-contains.ensures.cases)
          ],
      λ why. refl,
    )
