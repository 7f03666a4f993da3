-- The line of a reply: the compact text of an object with its keys in byte order, and a line feed.
use Rattle.std.specs.Prelude.{ℕ, ℤ, List, [], ◌∷◌, ◌++◌, map, true, codes}
use Rattle.std.specs.Fmt.{signed_decimal}
use Rattle.ratios.specs.Ratio.{Ratio}
use Rattle.frac_core.specs.Text.{ratio_text}
use Rattle.serde_json.specs.Data.{Data, boolean, string, array, object, Members, no_members, member}
use Rattle.serde_json.specs.View.{items_of}
use Rattle.serde_json.specs.Written.{compact_text}
use Rattle.record_text.specs.declared.kinds.Kind.{Kind}
use Rattle.messages.specs.declared.reply.Reply.{Reply}
use Rattle.messages.specs.declared.reply.Reply.TheVariants as reply
use Rattle.reply_text.specs.Refusals.{refusal_data, whole}
use Rattle.reply_text.specs.Words.{kind_word}

-- ---- lists

-- a kind, as its word
abbrev pub kind_data : Kind → Data
kind_data k = string (kind_word k)

-- a source, and how often it is used
abbrev pub use_data : List ℕ × ℕ → Data
use_data u = array (items_of (string u.0 ∷ whole u.1 ∷ []))

-- a weight, as its text
abbrev pub weight_data : Ratio → Data
weight_data q = string (ratio_text q)

-- a whole number, as its text
abbrev pub wide_data : ℤ → Data
wide_data n = string (signed_decimal n)

-- a list of such values
abbrev pub list_data : {A : Type 0} → (A → Data) → List A → Data
list_data f xs = array (items_of (map f xs))

-- ---- objects

-- `"ok":true`, and the members behind it
abbrev done : Members → Members
done ms = member (codes "ok") (boolean true) ms

-- `{"ok":true}`
abbrev pub done_data : Data
done_data = object (done no_members)

-- `{"ok":true,"sum":"5/6"}`
abbrev pub sum_data : Ratio → Data
sum_data q = object (done (member (codes "sum") (weight_data q) no_members))

-- `{"ok":true,"records":3}`
abbrev pub records_data : ℕ → Data
records_data count = object (done (member (codes "records") (whole count) no_members))

-- `{"cols":["int","text"],"ok":true,"uses":[["a",1]]}`
abbrev pub planned_data : List Kind → List (List ℕ × ℕ) → Data
planned_data cols uses =
    object (member (codes "cols") (list_data kind_data cols)
    (done (member (codes "uses") (list_data use_data uses) no_members)))

-- `{"ok":true,"weights":["9/19","0"]}`
abbrev pub looked_up_data : List Ratio → Data
looked_up_data qs = object (done (member (codes "weights") (list_data weight_data qs) no_members))

-- `{"charged":[["a",200000]],"ok":true,"values":["168521"]}`
abbrev pub measured_data : List (List ℕ × ℕ) → List ℤ → Data
measured_data charged values =
    object (member (codes "charged") (list_data use_data charged)
    (done (member (codes "values") (list_data wide_data values) no_members)))

-- `{"left":1,"ok":true,"spent":2,"total":3}`
abbrev pub budget_data : ℕ → ℕ → ℕ → Data
budget_data left spent total =
    object (member (codes "left") (whole left)
    (done (member (codes "spent") (whole spent) (member (codes "total") (whole total) no_members))))

-- ---- a reply

-- the object of a reply
abbrev pub reply_data : Reply → Data
reply_data reply.Done = done_data
reply_data (reply.SumOf q) = sum_data q
reply_data (reply.Records count) = records_data count
reply_data (reply.Planned cols uses) = planned_data cols uses
reply_data (reply.Values charged values) = measured_data charged values
reply_data (reply.Weights qs) = looked_up_data qs
reply_data (reply.Budget left spent total) = budget_data left spent total
reply_data (reply.Refused r) = refusal_data r

-- the line of a reply; 10 is the line feed
unfoldable pub reply_line : Reply → List ℕ
reply_line r = compact_text (reply_data r) ++ 10 ∷ []
