use Rattle.datasets.proofs.Distances.{dist-comm, dist-empty, dist-triangle, dist-zero, norm-apart}
use Rattle.datasets.proofs.law_distances.Goals as goal

pub returns : goal.returns
returns c = record {
  symmetric = dist-comm;
  to_empty = dist-empty;
  none = dist-zero;
  triangle = λ A B C. (dist-triangle A B C).le;
  norms = λ A B. (norm-apart A B).le;
}
