-- A dataset is told by its entries, and stored as them.
use Rattle.std.specs.Prelude.{◌≡◌, [], ◌∷◌, refl}
use Rattle.std.specs.Coded.{Coded, coded×, coded_list}
use base.Stored.{coded_via}
use Rattle.std.proofs.Common.{ap₂, subst}
use Rattle.std.proofs.lemmas.Map.Keys.{IsStrictlySortedBy-prop}
use Rattle.ratios.specs.Code.{ratio_code}
use Rattle.record_text.specs.Order.{row_cmp}
use Rattle.record_text.specs.contracts.atom.Atom as atom
use Rattle.datasets.specs.Entries.{Entries, rows_of, AreRising, NoneZero}
use Rattle.datasets.specs.Dataset.{Dataset}

NoneZero-prop : (es : Entries) (p q : NoneZero es) → p ≡ q
NoneZero-prop [] p q = refl
NoneZero-prop (e ∷ es) p q = λ i. ((λ z. let t : p.0 z ≡ q.0 z = absurd (p.0 z) in t i), NoneZero-prop es p.1 q.1 i)

dataset_from : (es : Entries) → AreRising (rows_of es) → NoneZero es → Dataset
dataset_from es r n = record { entries = es; rising = r; none_zero = n }

same_from : (es fs : Entries) (r : AreRising (rows_of es)) (n : NoneZero es) (s : AreRising (rows_of fs)) (m : NoneZero fs) → es ≡ fs → dataset_from es r n ≡ dataset_from fs s m
same_from es fs r n s m e =
    subst (λ (fs : Entries). (s : AreRising (rows_of fs)) (m : NoneZero fs) → dataset_from es r n ≡ dataset_from fs s m) e
    (λ s m. ap₂ (dataset_from es) (IsStrictlySortedBy-prop row_cmp (rows_of es) r s) (NoneZero-prop es n m)) s m

-- two datasets with the same entries are equal
pub same_entries_same_dataset : (A B : Dataset) → A.entries ≡ B.entries → A ≡ B
unfolding dataset_from
same_entries_same_dataset A B e = same_from A.entries B.entries A.rising A.none_zero B.rising B.none_zero e

-- a dataset is stored as its entries
abbrev pub dataset_code : Coded Dataset
dataset_code = coded_via (coded_list (coded× (coded_list atom.the_row.coded) ratio_code)) (λ A. A.entries) same_entries_same_dataset
