-- How many pieces runs have.
use Rattle.std.specs.Prelude.{ℕ, List, sum_by}
use Rattle.plan_model.specs.declared.step.Run.{Run}

-- how many pieces the runs have together
abbrev pub piece_count : List Run → ℕ
piece_count runs = sum_by (λ run. run.times) runs
