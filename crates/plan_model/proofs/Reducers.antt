-- The kind of what a reducer makes of rows of some columns.
use Rattle.std.specs.Prelude.{◌≡◌, ◌≢◌, ℕ, pos, Bool, true, false, fold, if◌then◌else◌, List, [], ◌∷◌, map}
use Rattle.std.specs.List.{AllByRecursion}
use Rattle.std.specs.Ordering.{is_lt}
use Rattle.std.proofs.Common.{refl, sym, ap, ◌∙◌}
use Rattle.std.proofs.Math.ListN.{get_or-map}
use Rattle.record_text.specs.declared.atom.Atom.{Atom}
use Rattle.record_text.specs.declared.atom.Atom.TheVariants as atom
use Rattle.record_text.specs.declared.kinds.Kind.{Kind}
use Rattle.record_text.specs.KindLists.{kind_of, kinds_of}
use Rattle.record_text.specs.Order.{atom_cmp}
use Rattle.datasets.specs.Entries.{Row}
use Rattle.datasets.proofs.Members.{AllByRecursion-map, AllByRecursion-weaker}
use Rattle.plan_model.specs.declared.step.Reducer.{Reducer}
use Rattle.plan_model.specs.Evaluation.{column, greatest, least, reduced_to}
use Rattle.plan_model.specs.Types.{column_kind, reducer_kind}

-- each atom has the kind
abbrev AreOfKind : Kind → List Atom → Type 0
AreOfKind k atoms = AllByRecursion (λ a. kind_of a ≡ k) atoms

kind-chosen : (b : Bool) (k : Kind) (u v : Atom) → kind_of u ≡ k → kind_of v ≡ k → kind_of (if b then u else v) ≡ k
kind-chosen true k u v h l = h
kind-chosen false k u v h l = l

-- an atom chosen out of atoms of one kind, by comparing one after the other, has the kind
kind-fold : (better : Atom → Atom → Bool) (k : Kind) (a : Atom) (atoms : List Atom) → kind_of a ≡ k → AreOfKind k atoms → kind_of (fold (λ b c. if better b c then c else b) a atoms) ≡ k
kind-fold better k a [] h l = h
kind-fold better k a (b ∷ atoms) h l = kind-fold better k (if better a b then b else a) atoms (kind-chosen (better a b) k b a l.0 h) l.1

kind-least : (k : Kind) (atoms : List Atom) → atoms ≢ [] → AreOfKind k atoms → kind_of (least atoms) ≡ k
kind-least k [] some h = absurd (some refl)
kind-least k (a ∷ atoms) some h = kind-fold (λ b c. is_lt (atom_cmp c b)) k a atoms h.0 h.1

kind-greatest : (k : Kind) (atoms : List Atom) → atoms ≢ [] → AreOfKind k atoms → kind_of (greatest atoms) ≡ k
kind-greatest k [] some h = absurd (some refl)
kind-greatest k (a ∷ atoms) some h = kind-fold (λ b c. is_lt (atom_cmp b c)) k a atoms h.0 h.1

some-map : {X Y : Type 0} (f : X → Y) (xs : List X) → xs ≢ [] → map f xs ≢ []
some-map f [] some e = some refl
some-map f (x ∷ xs) some e = cc

module _ (cols : List Kind) where
  AreOfKind-column : (c : ℕ) (xs : List Row) → AllByRecursion (λ x. kinds_of x ≡ cols) xs → AreOfKind (column_kind cols c) (map (column c) xs)
  AreOfKind-column c xs h =
      AllByRecursion-map (λ a. kind_of a ≡ column_kind cols c) (column c) xs (AllByRecursion-weaker (λ x. kinds_of x ≡ cols) (λ x. kind_of (column c x) ≡ column_kind cols c) xs
      (λ x e. sym (get_or-map kind_of x c (atom.Int (pos 0))) ∙ ap (λ ks. column_kind ks c) e) h)

  pub kind-reduced_to : (reduce : Reducer) (xs : List Row) → xs ≢ [] → AllByRecursion (λ x. kinds_of x ≡ cols) xs → kind_of (reduced_to reduce xs) ≡ reducer_kind cols reduce
  kind-reduced_to Reducer.Count xs some h = refl
  kind-reduced_to (Reducer.Min c) xs some h = kind-least (column_kind cols c) (map (column c) xs) (some-map (column c) xs some) (AreOfKind-column c xs h)
  kind-reduced_to (Reducer.Max c) xs some h = kind-greatest (column_kind cols c) (map (column c) xs) (some-map (column c) xs some) (AreOfKind-column c xs h)
  kind-reduced_to (Reducer.Sum c) xs some h = refl
