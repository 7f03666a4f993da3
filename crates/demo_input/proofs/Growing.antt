-- Texts that grow piece by piece.
use Rattle.std.proofs.Common.{◌≡◌, ℕ, ◌+◌, ◌-◌, ◌<◌, ◌≤◌, List, [], ◌∷◌, ◌++◌, length, take, get_or, zero, suc, refl, ap, sym, ◌∙◌, subst, arith, append_assoc, append-nil, length-append, OnErr, Result, Ok, Err}
use Rattle.std.proofs.lemmas.List.{take-take, take_at}
use Rattle.std.specs.List.{flat_map, range_with_len}
use Rattle.demo_input.specs.Growth.{BeginsWith}

-- bytes that begin with a text and more begin with the text
pub BeginsWith-appended : (front more bytes : List ℕ) → BeginsWith (front ++ more) bytes → BeginsWith front bytes
BeginsWith-appended front more bytes whole =
    let shorter : length front ≤ length (front ++ more) = omega (arith, length-append front more) in
    sym (take-take (length front) (length (front ++ more)) bytes shorter)
    ∙ ap (take (length front)) whole ∙ take_at front more (length front) refl

-- what a piece that failed leaves begins with the text before the pieces
pub BeginsWith-failed : (front more before bytes : List ℕ) → before ≡ front ++ more → BeginsWith before bytes → BeginsWith front bytes
BeginsWith-failed front more before bytes grown failed =
    BeginsWith-appended front more bytes (subst (λ text. BeginsWith text bytes) grown failed)

-- a fact that holds anyway holds after an error
pub OnErr-always : {X E : Type 0} (r : Result X E) {P : Type 0} → P → OnErr r P
OnErr-always (Ok x) fact = tt
OnErr-always (Err fault) fact = fact

-- two pieces, one after the other
pub appended-twice : (front first second before bytes : List ℕ) → before ≡ front ++ first → bytes ≡ before ++ second → bytes ≡ front ++ (first ++ second)
appended-twice front first second before bytes one other =
    other ∙ ap (λ text. text ++ second) one ∙ append_assoc front first second

-- the texts of one more number
pub flat_map-range_more : (f : ℕ → List ℕ) (first n next : ℕ) → first + n ≡ next
    → flat_map f (range_with_len first n) ++ f next ≡ flat_map f (range_with_len first (n + 1))
flat_map-range_more f first zero next at =
    let here : next ≡ first = omega arith in
    ap f here ∙ sym (append-nil (f first))
flat_map-range_more f first (suc n) next at =
    let more : suc n + 1 ≡ suc (n + 1) = omega arith in
    rw more (append_assoc (f first) (flat_map f (range_with_len (first + 1) n)) (f next)
    ∙ ap (λ texts. f first ++ texts) (flat_map-range_more f (first + 1) n next (omega arith)))

-- the texts of one more item
pub flat_map-take_more : {X : Type 0} (f : X → List ℕ) (items : List X) (i : ℕ) (default : X) → i < length items
    → flat_map f (take i items) ++ f (get_or items i default) ≡ flat_map f (take (i + 1) items)
flat_map-take_more f [] i default within = absurd (omega arith)
flat_map-take_more f (x ∷ items) zero default within = sym (append-nil (f x))
flat_map-take_more f (x ∷ items) (suc i) default within =
    let more : suc i + 1 ≡ suc (i + 1) = omega arith in
    rw more (append_assoc (f x) (flat_map f (take i items)) (f (get_or items i default))
    ∙ ap (λ texts. f x ++ texts) (flat_map-take_more f items i default (omega arith)))

-- a text that grew by the pieces of numbers in a row has grown by one more
pub grown-range_more : (f : ℕ → List ℕ) (front : List ℕ) (first here : ℕ) (before bytes : List ℕ) → first ≤ here
    → before ≡ front ++ flat_map f (range_with_len first (here - first)) → bytes ≡ before ++ f here
    → bytes ≡ front ++ flat_map f (range_with_len first (here + 1 - first))
grown-range_more f front first here before bytes from grown more =
    let count : here + 1 - first ≡ here - first + 1 = omega arith in
    rw count (appended-twice front (flat_map f (range_with_len first (here - first))) (f here) before bytes grown more
    ∙ ap (λ text. front ++ text) (flat_map-range_more f first (here - first) here (omega arith)))
