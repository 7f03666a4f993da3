-- The words in replies.
use Rattle.std.specs.Prelude.{ℕ, List, codes}
use Rattle.frac_core.specs.declared.FracFault.{FracFault}
use Rattle.frac_core.specs.declared.FracFault.TheVariants as fault
use Rattle.record_text.specs.declared.kinds.Kind.{Kind}
use Rattle.record_text.specs.declared.kinds.Kind.TheVariants as kind
use Rattle.plan_model.specs.declared.plan.What.{What}
use Rattle.plan_model.specs.declared.plan.What.TheVariants as cause
use Rattle.expr_text.specs.declared.fault.Limit.{Limit}
use Rattle.expr_text.specs.declared.fault.Limit.TheVariants as limit
use Rattle.csv_changes.specs.declared.fault.CsvWhat.{CsvWhat}
use Rattle.csv_changes.specs.declared.fault.CsvWhat.TheVariants as csv

-- the word for a kind
abbrev pub kind_word : Kind → List ℕ
kind_word kind.Int = codes "int"
kind_word kind.Text = codes "text"

-- the word for what there is too much of
abbrev pub limit_word : Limit → List ℕ
limit_word limit.Steps = codes "steps"
limit_word limit.Width = codes "width"
limit_word limit.Depth = codes "depth"
limit_word limit.Nodes = codes "nodes"
limit_word limit.Items = codes "items"
limit_word limit.Pieces = codes "pieces"

-- the word for what keeps a text from being a weight
abbrev pub fault_word : FracFault → List ℕ
fault_word fault.BadText = codes "bad"
fault_word fault.ZeroDenominator = codes "zero"
fault_word fault.OutOfRange = codes "range"

-- the word for what keeps a record from being a change
abbrev pub csv_word : CsvWhat → List ℕ
csv_word csv.Width = codes "width"
csv_word csv.Int = codes "int"
csv_word csv.Text = codes "text"
csv_word csv.Weight = codes "weight"

-- the word for what keeps a plan from being accepted
abbrev pub what_word : What → List ℕ
what_word cause.UnknownSource = codes "unknown_source"
what_word cause.Column = codes "column"
what_word cause.Kind = codes "kind"
what_word cause.TooWide = codes "too_wide"
what_word cause.Negative = codes "negative"
what_word cause.UsesOver = codes "uses_over"
