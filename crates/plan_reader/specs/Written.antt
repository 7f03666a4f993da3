-- The values that steps and plans are written as, and what it is that a step reads as.
use Rattle.std.specs.Prelude.{◌≡◌, ℕ, IsTrue, codes, List, Some, Ok}
use Rattle.serde_json.specs.Data.{Data, unsigned, number, string, array, object, no_members, member}
use Rattle.serde_json.specs.View.{items_of}
use Rattle.plan_model.specs.declared.step.Item.{Item}
use Rattle.plan_model.specs.declared.step.Reducer.{Reducer}
use Rattle.plan_model.specs.declared.step.Run.{Run}
use Rattle.plan_model.specs.declared.step.SetKind.{SetKind}
use Rattle.plan_model.specs.declared.step.SetKind.TheVariants as set
use Rattle.plan_model.specs.declared.step.Step.{Step}
use Rattle.plan_model.specs.Limits.{is_step}
use Rattle.expr_text.specs.declared.fault.Place.{Place}
use Rattle.plan_reader.specs.Items.{item_in, items_in}
use Rattle.plan_reader.specs.Reducers.{reducer_in}
use Rattle.plan_reader.specs.Runs.{run_in, runs_in}
use Rattle.plan_reader.specs.Steps.{step_at}

-- ---- values

-- `{"do":"source","name":name}`
abbrev pub source_data : List ℕ → Data
source_data name = object (member (codes "do") (string (codes "source")) (member (codes "name") (string name) no_members))

-- `{"do":"where","if":test,"of":from}`
abbrev pub where_data : ℕ → Data → Data
where_data from test =
    object (member (codes "do") (string (codes "where")) (member (codes "if") test (member (codes "of") (number (unsigned from)) no_members)))

-- `{"do":"select","of":from,"row":row}`
abbrev pub select_data : ℕ → Data → Data
select_data from row =
    object (member (codes "do") (string (codes "select")) (member (codes "of") (number (unsigned from)) (member (codes "row") row no_members)))

-- `{"row":row,"weight":weight}`
abbrev pub item_data : ℕ → Data → Data
item_data weight row = object (member (codes "row") row (member (codes "weight") (number (unsigned weight)) no_members))

-- `{"if":test,"row":row,"weight":weight}`
abbrev pub guarded_item_data : ℕ → Data → Data → Data
guarded_item_data weight test row =
    object (member (codes "if") test (member (codes "row") row (member (codes "weight") (number (unsigned weight)) no_members)))

-- `{"do":"many","items":items,"of":from,"over":spread}`
abbrev pub many_data : ℕ → ℕ → Data → Data
many_data from spread items =
    object (member (codes "do") (string (codes "many")) (member (codes "items") items
    (member (codes "of") (number (unsigned from)) (member (codes "over") (number (unsigned spread)) no_members))))

-- `{"times":count,"weight":weight}`
abbrev pub run_data : List ℕ → ℕ → Data
run_data weight count = object (member (codes "times") (number (unsigned count)) (member (codes "weight") (string weight) no_members))

-- `{"do":"shave","of":from,"runs":runs}`
abbrev pub shave_data : ℕ → Data → Data
shave_data from runs =
    object (member (codes "do") (string (codes "shave")) (member (codes "of") (number (unsigned from)) (member (codes "runs") runs no_members)))

-- the name of a set operator
abbrev pub set_name : SetKind → List ℕ
set_name set.Union = codes "union"
set_name set.Intersect = codes "intersect"
set_name set.Concat = codes "concat"
set_name set.Except = codes "except"

-- `{"do":name,"left":left,"right":right}`
abbrev pub set_data : List ℕ → ℕ → ℕ → Data
set_data name left right =
    object (member (codes "do") (string name) (member (codes "left") (number (unsigned left)) (member (codes "right") (number (unsigned right)) no_members)))

-- `{"do":"join","left":left,"left_key":left_key,"right":right,"right_key":right_key}`
abbrev pub join_data : ℕ → ℕ → Data → Data → Data
join_data left right left_key right_key =
    object (member (codes "do") (string (codes "join")) (member (codes "left") (number (unsigned left)) (member (codes "left_key") left_key
    (member (codes "right") (number (unsigned right)) (member (codes "right_key") right_key no_members)))))

-- `{"fn":"count"}`
abbrev pub count_data : Data
count_data = object (member (codes "fn") (string (codes "count")) no_members)

-- `{"col":column,"fn":function}`
abbrev pub column_reducer_data : List ℕ → ℕ → Data
column_reducer_data function column =
    object (member (codes "col") (number (unsigned column)) (member (codes "fn") (string function) no_members))

-- `{"do":"group","key":key,"of":from,"reduce":reduce}`
abbrev pub group_data : ℕ → Data → Data → Data
group_data from key reduce =
    object (member (codes "do") (string (codes "group")) (member (codes "key") key
    (member (codes "of") (number (unsigned from)) (member (codes "reduce") reduce no_members))))

-- `{"format":1,"steps":[..]}`
abbrev pub plan_data : List Data → Data
plan_data steps = object (member (codes "format") (number (unsigned 1)) (member (codes "steps") (array (items_of steps)) no_members))

-- ---- reading back

-- the walk over the value gives the item
abbrev pub ItemReadsAs : Item → Data → Type 0
ItemReadsAs i d = (p : Place) → item_in p d ≡ Ok i

-- the walk over the list gives these items
abbrev pub ItemsReadAs : List Item → Data → Type 0
ItemsReadAs is d = (p : Place) → items_in p (Some d) ≡ Ok is

-- the walk over the value gives the run
abbrev pub RunReadsAs : Run → Data → Type 0
RunReadsAs r d = (p : Place) → run_in p d ≡ Ok (r.weight, r.times)

-- the walk over the list gives these runs
abbrev pub RunsReadAs : List Run → Data → Type 0
RunsReadAs rs d = (p : Place) → runs_in p (Some d) ≡ Ok rs

-- the walk over the value gives the reducer
abbrev pub ReducerReadsAs : Reducer → Data → Type 0
ReducerReadsAs r d = (p : Place) → reducer_in p (Some d) ≡ Ok r

-- at each place of a plan where the step may stand, the walk over the value gives the step
abbrev pub StepReadsAs : Step → Data → Type 0
StepReadsAs s d = (at : ℕ) → IsTrue (is_step at s) → step_at at d ≡ Ok s
