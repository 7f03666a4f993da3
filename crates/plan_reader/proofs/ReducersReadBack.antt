-- Reducers that are written read back.
use Rattle.std.proofs.Common.{ℕ, ◌≤◌, codes, refl, le-leb}
use Rattle.plan_model.specs.declared.step.Reducer.TheVariants as reducer
use Rattle.plan_model.specs.Sizes.{max_column}
use Rattle.plan_reader.specs.Reducers.{kind_named, reducer_in}
use Rattle.plan_reader.specs.Written.{ReducerReadsAs, column_reducer_data, count_data}

pub reads-Count : ReducerReadsAs reducer.Count count_data
unfolding reducer_in kind_named
reads-Count p = refl

pub reads-Min : (c : ℕ) → c ≤ max_column → ReducerReadsAs (reducer.Min c) (column_reducer_data (codes "min") c)
unfolding reducer_in kind_named
reads-Min c few p = rw (le-leb c max_column few) refl

pub reads-Max : (c : ℕ) → c ≤ max_column → ReducerReadsAs (reducer.Max c) (column_reducer_data (codes "max") c)
unfolding reducer_in kind_named
reads-Max c few p = rw (le-leb c max_column few) refl

pub reads-Sum : (c : ℕ) → c ≤ max_column → ReducerReadsAs (reducer.Sum c) (column_reducer_data (codes "sum") c)
unfolding reducer_in kind_named
reads-Sum c few p = rw (le-leb c max_column few) refl
