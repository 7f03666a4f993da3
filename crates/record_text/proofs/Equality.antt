-- Which tests decide equality.
use Rattle.std.proofs.Common.{◌≡◌, Bool, refl, sym, ◌∙◌, ap, true≢false}
use Rattle.std.specs.Bool.{Decides}
use Rattle.std.specs.Cmp.{IsTotalOrder, Equal-is, tied_itself}
use Rattle.std.specs.Cmp.Lexicographic.{pointwise_decides, bytes_decides}
use Rattle.std.specs.declared.cmp.Ordering.{Ordering}
use Rattle.std.specs.FinMap.{IsAntisymmetric}
use Rattle.std.specs.Ordering.{eq_by_cmp}
use Rattle.record_text.specs.declared.kinds.Kind.{Kind}
use Rattle.record_text.specs.declared.kinds.Kind.TheVariants.{Int, Text}
use Rattle.record_text.specs.KindLists.{kind_eq, kinds_eq}
use Rattle.record_text.specs.Laws.{DecidesEquality}
use Rattle.record_text.specs.Names.{name_eq}
use Rattle.record_text.specs.Order.{atom_cmp, atom_eq, row_cmp, row_eq}
use Rattle.record_text.specs.OrderLaws.{atom_total, atom_tie, atom_ties, row_total, row_tie, row_ties}

-- a test of ties decides equality, where only equal values tie
decided_by_ties : {A : Type 0} (test : A → A → Bool) (compare : A → A → Ordering) → IsTotalOrder compare → IsAntisymmetric compare
    → ((a b : A) → test a b ≡ eq_by_cmp compare a b) → DecidesEquality test
decided_by_ties test compare total tie ties a b =
    (λ e. tie a b ((Equal-is (compare a b)).0 (sym (ties a b) ∙ e)), λ e. ties a b ∙ (Equal-is (compare a b)).1 (ap (λ x. compare a x) (sym e) ∙ tied_itself total a))

pub atoms_decided : DecidesEquality atom_eq
atoms_decided = decided_by_ties atom_eq atom_cmp atom_total atom_tie atom_ties

pub rows_decided : DecidesEquality row_eq
rows_decided = decided_by_ties row_eq row_cmp row_total row_tie row_ties

kind_decided : (a b : Kind) → Decides (kind_eq a b) (a ≡ b)
kind_decided Int Int = (λ e. refl, λ e. refl)
kind_decided Int Text = (λ e. absurd (true≢false (sym e)), λ e. cc)
kind_decided Text Int = (λ e. absurd (true≢false (sym e)), λ e. cc)
kind_decided Text Text = (λ e. refl, λ e. refl)

pub kinds_decided : DecidesEquality kinds_eq
kinds_decided = pointwise_decides kind_decided

pub names_decided : DecidesEquality name_eq
names_decided = bytes_decides
