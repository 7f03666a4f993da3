-- What is known over several calls.
use Rattle.std.proofs.Common.{◌≡◌, List, [], ◌++◌, refl, ap, sym, ◌∙◌, append_assoc, append-nil, subst}
use Rattle.std.specs.Prelude.{Option, None, Some}
use Rattle.io_edge.specs.Known.{Loses, Gains}

-- what stays the same lost nothing
pub Loses-none : {A : Type 0} (known : Option (List A)) → Loses known known []
Loses-none None = tt
Loses-none (Some items) = refl

-- what stays the same gained nothing
pub Gains-none : {A : Type 0} (known : Option (List A)) → Gains known known []
Gains-none None = tt
Gains-none (Some items) = sym (append-nil items)

-- what a failed call leaves lost nothing
pub Loses-same : {A : Type 0} (old new : Option (List A)) → new ≡ old → Loses old new []
Loses-same old new same = subst (λ known. Loses known new []) same (Loses-none new)

-- what a failed call leaves gained nothing
pub Gains-same : {A : Type 0} (old new : Option (List A)) → new ≡ old → Gains old new []
Gains-same old new same = subst (λ known. Gains known new []) same (Gains-none new)

-- two losses one after another
pub Loses-append : {A : Type 0} (old middle new : Option (List A)) (first second : List A)
    → Loses old middle first → Loses middle new second → Loses old new (first ++ second)
Loses-append None None None first second lost more = tt
Loses-append None None (Some c) first second lost more = more
Loses-append None (Some b) new first second lost more = absurd lost
Loses-append (Some a) None new first second lost more = absurd lost
Loses-append (Some a) (Some b) None first second lost more = more
Loses-append (Some a) (Some b) (Some c) first second lost more =
    lost ∙ ap (λ rest. first ++ rest) more ∙ sym (append_assoc first second c)

-- two gains one after another
pub Gains-append : {A : Type 0} (old middle new : Option (List A)) (first second : List A)
    → Gains old middle first → Gains middle new second → Gains old new (first ++ second)
Gains-append None None None first second gained more = tt
Gains-append None None (Some c) first second gained more = more
Gains-append None (Some b) new first second gained more = absurd gained
Gains-append (Some a) None new first second gained more = absurd gained
Gains-append (Some a) (Some b) None first second gained more = more
Gains-append (Some a) (Some b) (Some c) first second gained more =
    more ∙ ap (λ front. front ++ second) gained ∙ append_assoc a first second
