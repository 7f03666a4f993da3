use Rattle.std.proofs.Common.{◌≡◌, arith, codes}
use Rattle.std.proofs.lemmas.Result.{IfOk-weaker}
use Rattle.serde_json.specs.View.{view}
use Rattle.plan_model.specs.declared.step.Reducer.TheVariants as reducer
use Rattle.plan_reader.specs.Written.{ReducerReadsAs, column_reducer_data, count_data}
use Rattle.plan_reader.proofs.ReducersReadBack.{reads-Count, reads-Min, reads-Max, reads-Sum}
use Rattle.plan_reader.proofs.reducers.reducer_to_json.Goals as goal

pub returns-in-Count : goal.returns-in-Count
returns-in-Count c =
    rw c.in-Count.is (IfOk-weaker c.count_of.result (λ v. view v ≡ count_data) (λ v. ReducerReadsAs reducer.Count (view v)) (λ v is. rw is reads-Count) c.count_of.ensures)

pub returns-in-Min : goal.returns-in-Min
returns-in-Min c =
    rw c.in-Min.is (IfOk-weaker c.column_reducer_of.result (λ v. view v ≡ column_reducer_data (codes "min") c.in-Min.column)
    (λ v. ReducerReadsAs (reducer.Min c.in-Min.column) (view v)) (λ v is. rw is (reads-Min c.in-Min.column (omega arith))) c.column_reducer_of.ensures)

pub returns-in-Max : goal.returns-in-Max
returns-in-Max c =
    rw c.in-Max.is (IfOk-weaker c.column_reducer_of-in-Max.result (λ v. view v ≡ column_reducer_data (codes "max") c.in-Max.column)
    (λ v. ReducerReadsAs (reducer.Max c.in-Max.column) (view v)) (λ v is. rw is (reads-Max c.in-Max.column (omega arith))) c.column_reducer_of-in-Max.ensures)

pub returns-in-Sum : goal.returns-in-Sum
returns-in-Sum c =
    rw c.in-Sum.is (IfOk-weaker c.column_reducer_of-in-Sum.result (λ v. view v ≡ column_reducer_data (codes "sum") c.in-Sum.column)
    (λ v. ReducerReadsAs (reducer.Sum c.in-Sum.column) (view v)) (λ v is. rw is (reads-Sum c.in-Sum.column (omega arith))) c.column_reducer_of-in-Sum.ensures)
