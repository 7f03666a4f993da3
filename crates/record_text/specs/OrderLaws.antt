-- The laws of the order and the equality of atoms and of rows.
use Rattle.std.specs.Prelude.{◌≡◌, ℕ, List, refl}
use Rattle.std.proofs.Common.{sym, ap, subst}
use Rattle.std.specs.declared.cmp.Ordering.TheVariants.{Less, Equal, Greater}
use Rattle.std.specs.Ordering.{nat_cmp, eq_by_cmp, ordering_reverse}
use Rattle.std.specs.Cmp.{IsTotalOrder, IsEquivalence, int_cmp_total, unsigned_ties, eq_by_cmp_equiv}
use Rattle.std.specs.Cmp.Lexicographic.{lists_total, lists_ties, lists_equiv, nat_list_cmp_total}
use Rattle.std.specs.FinMap.{IsAntisymmetric, int_cmp-IsAntisymmetric, nat_cmp-IsAntisymmetric, slice_cmp-IsAntisymmetric}
use Rattle.record_text.specs.declared.atom.Atom.{Atom}
use Rattle.record_text.specs.declared.atom.Atom.TheVariants.{Int, Text}
use Rattle.record_text.specs.Order.{text_cmp, text_eq, atom_cmp, atom_eq, row_cmp, row_eq}

-- equal texts are those that tie
pub text_ties : (a b : List ℕ) → text_eq a b ≡ eq_by_cmp text_cmp a b
text_ties = lists_ties nat_cmp unsigned_ties

-- equal atoms are those that tie
pub atom_ties : (a b : Atom) → atom_eq a b ≡ eq_by_cmp atom_cmp a b
atom_ties (Int a) (Int b) = refl
atom_ties (Int a) (Text b) = refl
atom_ties (Text a) (Int b) = refl
atom_ties (Text a) (Text b) = text_ties a b

-- the other way round
atoms_turn : (a b : Atom) → atom_cmp a b ≡ ordering_reverse (atom_cmp b a)
atoms_turn (Int a) (Int b) = int_cmp_total.antisymm a b
atoms_turn (Int a) (Text b) = refl
atoms_turn (Text a) (Int b) = refl
atoms_turn (Text a) (Text b) = nat_list_cmp_total.antisymm a b

not_less : Greater ≡ Less → ⊥
not_less e = cc

not_equal : Less ≡ Equal → ⊥
not_equal e = cc

nor_equal : Greater ≡ Equal → ⊥
nor_equal e = cc

-- below what is below
atoms_chain : (a b c : Atom) → atom_cmp a b ≡ Less → atom_cmp b c ≡ Less → atom_cmp a c ≡ Less
atoms_chain (Int a) (Int b) (Int c) p q = int_cmp_total.trans a b c p q
atoms_chain (Int a) (Int b) (Text c) p q = refl
atoms_chain (Int a) (Text b) (Int c) p q = absurd (not_less q)
atoms_chain (Int a) (Text b) (Text c) p q = refl
atoms_chain (Text a) (Int b) c p q = absurd (not_less p)
atoms_chain (Text a) (Text b) (Int c) p q = absurd (not_less q)
atoms_chain (Text a) (Text b) (Text c) p q = nat_list_cmp_total.trans a b c p q

-- atoms that tie compare alike with every other
atoms_agree : (a b c : Atom) → atom_cmp a b ≡ Equal → atom_cmp a c ≡ atom_cmp b c
atoms_agree (Int a) (Int b) (Int c) p = int_cmp_total.congr a b c p
atoms_agree (Int a) (Int b) (Text c) p = refl
atoms_agree (Int a) (Text b) c p = absurd (not_equal p)
atoms_agree (Text a) (Int b) c p = absurd (nor_equal p)
atoms_agree (Text a) (Text b) (Int c) p = refl
atoms_agree (Text a) (Text b) (Text c) p = nat_list_cmp_total.congr a b c p

pub atom_total : IsTotalOrder atom_cmp
atom_total = record { antisymm = atoms_turn; trans = atoms_chain; congr = atoms_agree }

pub atom_equivalence : IsEquivalence atom_eq
atom_equivalence = subst IsEquivalence (λ i a b. sym (atom_ties a b) i) (eq_by_cmp_equiv atom_total)

pub row_total : IsTotalOrder row_cmp
row_total = lists_total atom_total

-- equal rows are those that tie
pub row_ties : (a b : List Atom) → row_eq a b ≡ eq_by_cmp row_cmp a b
row_ties = lists_ties atom_cmp atom_ties

pub row_equivalence : IsEquivalence row_eq
row_equivalence = lists_equiv atom_equivalence

-- texts that tie are one
pub text_tie : IsAntisymmetric text_cmp
text_tie = slice_cmp-IsAntisymmetric nat_cmp-IsAntisymmetric

-- atoms that tie are one
pub atom_tie : IsAntisymmetric atom_cmp
atom_tie (Int a) (Int b) p = ap Int (int_cmp-IsAntisymmetric a b p)
atom_tie (Int a) (Text b) p = absurd (not_equal p)
atom_tie (Text a) (Int b) p = absurd (nor_equal p)
atom_tie (Text a) (Text b) p = ap Text (text_tie a b p)

-- rows that tie are one
pub row_tie : IsAntisymmetric row_cmp
row_tie = slice_cmp-IsAntisymmetric atom_tie
