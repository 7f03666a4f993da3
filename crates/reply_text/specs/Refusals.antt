-- The objects of refusals, with their keys in byte order.
use Rattle.std.specs.Prelude.{ℕ, List, false, codes, Option, Some, None}
use Rattle.frac_core.specs.declared.FracFault.{FracFault}
use Rattle.serde_json.specs.Data.{Data, boolean, number, unsigned, string, object, Members, no_members, member}
use Rattle.plan_model.specs.declared.plan.What.{What}
use Rattle.expr_text.specs.declared.fault.Limit.{Limit}
use Rattle.csv_changes.specs.declared.fault.CsvWhat.{CsvWhat}
use Rattle.messages.specs.Words.{thing_word}
use Rattle.messages.specs.declared.thing.Thing.{Thing}
use Rattle.messages.specs.declared.refusal.Refusal.{Refusal}
use Rattle.messages.specs.declared.refusal.Refusal.TheVariants as refusal
use Rattle.reply_text.specs.Words.{csv_word, fault_word, limit_word, what_word}

-- ---- members

-- a whole number
abbrev pub whole : ℕ → Data
whole n = number (unsigned n)

-- `"ok":false`, and the members behind it
abbrev refused : Members → Members
refused ms = member (codes "ok") (boolean false) ms

-- `"why":"json"`, which comes last
abbrev cause : List ℕ → Members
cause why = member (codes "why") (string why) no_members

-- `"ok":false,"why":"json"`
abbrev pub refused_for : List ℕ → Members
refused_for why = refused (cause why)

-- `"ok":false,"step":1,"why":"shape"`
abbrev refused_at : ℕ → List ℕ → Members
refused_at step why = refused (member (codes "step") (whole step) (cause why))

-- ---- objects

-- `{"field":"rows","ok":false,"why":"shape"}`
abbrev pub field_data : List ℕ → List ℕ → Data
field_data field why = object (member (codes "field") (string field) (refused_for why))

-- `{"field":"row","ok":false,"step":1,"why":"shape"}`, and without the step where the field is none of a plan
abbrev pub shape_data : List ℕ → Option ℕ → Data
shape_data field None = field_data field (codes "shape")
shape_data field (Some step) = object (member (codes "field") (string field) (refused_at step (codes "shape")))

-- `{"limit":"depth","ok":false,"step":1,"why":"over"}`
abbrev pub over_data : ℕ → Limit → Data
over_data step l = object (member (codes "limit") (string (limit_word l)) (refused_at step (codes "over")))

-- `{"at":0,"ok":false,"text":"bad","why":"weight"}`
abbrev pub weight_fault_data : ℕ → FracFault → Data
weight_fault_data at f =
    object (member (codes "at") (whole at)
    (refused (member (codes "text") (string (fault_word f)) (cause (codes "weight")))))

-- `{"name":"a","ok":false,"what":"source","why":"exists"}`
abbrev pub name_data : Thing → List ℕ → List ℕ → Data
name_data what name why =
    object (member (codes "name") (string name)
    (refused (member (codes "what") (string (thing_word what)) (cause why))))

-- `{"ok":false,"what":"source","why":"full"}`
abbrev pub full_data : Thing → Data
full_data what = object (refused (member (codes "what") (string (thing_word what)) (cause (codes "full"))))

-- `{"ok":false,"record":1,"what":"int","why":"csv"}`
abbrev pub csv_data : ℕ → CsvWhat → Data
csv_data at what =
    object (refused (member (codes "record") (whole at)
    (member (codes "what") (string (csv_word what)) (cause (codes "csv")))))

-- `{"ok":false,"record":1,"why":"negative"}`
abbrev pub record_data : ℕ → List ℕ → Data
record_data at why = object (refused (member (codes "record") (whole at) (cause why)))

-- `{"ok":false,"step":1,"what":"kind","why":"plan"}`
abbrev pub plan_data : ℕ → What → Data
plan_data step w =
    object (refused (member (codes "step") (whole step)
    (member (codes "what") (string (what_word w)) (cause (codes "plan")))))

-- `{"ok":false,"row":1,"why":"repeat"}`
abbrev pub row_fault_data : ℕ → List ℕ → Data
row_fault_data at why = object (refused (member (codes "row") (whole at) (cause why)))

-- `{"at":1,"ok":false,"why":"range"}`
abbrev pub sum_range_data : ℕ → Data
sum_range_data at = object (member (codes "at") (whole at) (refused_for (codes "range")))

-- `{"ok":false,"plan":"p2","step":1,"why":"range"}`
abbrev pub range_data : List ℕ → ℕ → Data
range_data plan step =
    object (refused (member (codes "plan") (string plan)
    (member (codes "step") (whole step) (cause (codes "range")))))

-- `{"asked":2,"left":1,"ok":false,"source":"a","why":"budget"}`
abbrev pub short_data : List ℕ → ℕ → ℕ → Data
short_data source left asked =
    object (member (codes "asked") (whole asked)
    (member (codes "left") (whole left)
    (refused (member (codes "source") (string source) (cause (codes "budget"))))))

-- ---- a refusal

-- the object of a refusal
abbrev pub refusal_data : Refusal → Data
refusal_data refusal.Line = object (refused_for (codes "line"))
refusal_data refusal.Json = object (refused_for (codes "json"))
refusal_data (refusal.Shape field step) = shape_data field step
refusal_data (refusal.Over step l) = over_data step l
refusal_data (refusal.Weight at f) = weight_fault_data at f
refusal_data (refusal.Name field) = field_data field (codes "name")
refusal_data (refusal.Exists what name) = name_data what name (codes "exists")
refusal_data (refusal.Unknown what name) = name_data what name (codes "unknown")
refusal_data (refusal.Full what) = full_data what
refusal_data refusal.Curator = object (refused_for (codes "curator"))
refusal_data refusal.File = object (refused_for (codes "file"))
refusal_data refusal.FileMissing = object (refused_for (codes "file_missing"))
refusal_data refusal.FileLong = object (refused_for (codes "file_long"))
refusal_data (refusal.Csv at what) = csv_data at what
refusal_data (refusal.RecordRange at) = record_data at (codes "record_range")
refusal_data (refusal.Negative at) = record_data at (codes "negative")
refusal_data (refusal.Plan step w) = plan_data step w
refusal_data (refusal.Row at) = row_fault_data at (codes "row")
refusal_data (refusal.Repeat at) = row_fault_data at (codes "repeat")
refusal_data (refusal.SumRange at) = sum_range_data at
refusal_data (refusal.Range plan step) = range_data plan step
refusal_data (refusal.Budget source left asked) = short_data source left asked
refusal_data refusal.Noise = object (refused_for (codes "noise"))
