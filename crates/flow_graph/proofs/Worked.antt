-- The work of the paths in a triangle, computed. An expression is handed over as its term.
use Rattle.std.specs.Prelude.{◌≡◌, ℕ, ◌+◌, length}
use Rattle.std.proofs.Common.{refl, ap₂, ◌∙◌, sym, subst}
use Rattle.datasets.specs.Dataset.{Dataset, dataset_of, differing, empty, set_at}
use Rattle.engines.specs.Work.{part_work}
use Rattle.operators.specs.Keys.{one_key, passing_key}
use Rattle.operators.specs.Operators.{filtered, joined}
use Rattle.plan_model.proofs.Terms.{term_of-Col, term_of-Two}
use Rattle.plan_model.specs.Evaluation.{is_true_atom}
use Rattle.plan_model.specs.Values.{Term, col, term_of, two}
use Rattle.plan_model.specs.declared.expr.Expr.TheVariants.{Col}
use Rattle.ratios.specs.Gcd.{gcd, gcd_within}
use Rattle.ratios.specs.Ratio.{one_ratio, ratio, reduced, zero_ratio}
use Rattle.worked_plans.proofs.Computed.{key, value_of}
use Rattle.worked_plans.specs.Paths.{edges, one_way, triangle}
use Rattle.flow_graph.specs.Laws.{EdgeWork}

abbrev before : Dataset
before = edges triangle

abbrev after : Dataset
after = edges one_way

module _ (left right test : Term) where
  abbrev paths_of : Dataset → Dataset
  paths_of A = joined (key left) (key right) A A

  abbrev passing : Dataset → Dataset
  passing A = filtered (λ x. is_true_atom (value_of test x)) A

  abbrev source_work : ℕ
  source_work = length (differing before after) + part_work (λ x. empty) (λ x. empty) before empty after empty

  abbrev join_work : ℕ
  join_work =
      length (differing (paths_of before) (paths_of after))
      + part_work (λ x. one_key (key left x)) (λ x. one_key (key right x)) before before after after

  abbrev filter_work : ℕ
  filter_work =
      length (differing (passing (paths_of before)) (passing (paths_of after)))
      + part_work (passing_key (λ x. is_true_atom (value_of test x))) (λ x. empty) (paths_of before) empty (paths_of after) empty

  abbrev EdgeWorkBy : Type 0
  EdgeWorkBy = 0 + source_work + join_work + filter_work ≡ 31

edge_work_by : EdgeWorkBy (col 1) (col 0) (two 8 (col 0) (col 3))
unfolding dataset_of empty set_at one_ratio ratio reduced zero_ratio gcd gcd_within
edge_work_by = refl

pub edge_work : EdgeWork
edge_work =
    subst (EdgeWorkBy (term_of (Col 1)) (term_of (Col 0))) (sym (term_of-Two 8 (Col 0) (Col 3) ∙ ap₂ (two 8) (term_of-Col 0) (term_of-Col 3)))
    (subst (λ left. EdgeWorkBy left (term_of (Col 0)) (two 8 (col 0) (col 3))) (sym (term_of-Col 1))
    (subst (λ right. EdgeWorkBy (col 1) right (two 8 (col 0) (col 3))) (sym (term_of-Col 0)) edge_work_by))
