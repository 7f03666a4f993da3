-- No reply has a float.
use Rattle.std.proofs.Common.{◌≡◌, List, [], ◌∷◌, map, Some, None, false, refl, ap, ◌∙◌}
use Rattle.serde_json.specs.Data.{Data}
use Rattle.serde_json.specs.View.{items_of, view}
use Rattle.serde_json.specs.Written.{has_float, items_have_float}
use Rattle.serde_json.specs.declared.value.Value.{Value}
use Rattle.messages.specs.declared.refusal.Refusal.{Refusal}
use Rattle.messages.specs.declared.refusal.Refusal.TheVariants as refusal
use Rattle.messages.specs.declared.reply.Reply.{Reply}
use Rattle.messages.specs.declared.reply.Reply.TheVariants as reply
use Rattle.reply_text.specs.Refusals.{refusal_data}
use Rattle.reply_text.specs.Replies.{kind_data, reply_data, use_data, weight_data, wide_data}

-- a list has none where no member has one
list-plain : {A : Type 0} (f : A → Data) → ((x : A) → has_float (f x) ≡ false) → (xs : List A)
    → items_have_float (items_of (map f xs)) ≡ false
list-plain f plain [] = refl
list-plain f plain (x ∷ xs) = rw (plain x) (list-plain f plain xs)

refusal-plain : (r : Refusal) → has_float (refusal_data r) ≡ false
refusal-plain refusal.Line = refl
refusal-plain refusal.Json = refl
refusal-plain (refusal.Shape field None) = refl
refusal-plain (refusal.Shape field (Some step)) = refl
refusal-plain (refusal.Over step l) = refl
refusal-plain (refusal.Weight at f) = refl
refusal-plain (refusal.Name field) = refl
refusal-plain (refusal.Exists what name) = refl
refusal-plain (refusal.Unknown what name) = refl
refusal-plain (refusal.Full what) = refl
refusal-plain refusal.Curator = refl
refusal-plain refusal.File = refl
refusal-plain refusal.FileMissing = refl
refusal-plain refusal.FileLong = refl
refusal-plain (refusal.Csv at what) = refl
refusal-plain (refusal.RecordRange at) = refl
refusal-plain (refusal.Negative at) = refl
refusal-plain (refusal.Plan step w) = refl
refusal-plain (refusal.Row at) = refl
refusal-plain (refusal.Repeat at) = refl
refusal-plain (refusal.SumRange at) = refl
refusal-plain (refusal.Range plan step) = refl
refusal-plain (refusal.Budget source left asked) = refl
refusal-plain refusal.Noise = refl

reply-plain : (r : Reply) → has_float (reply_data r) ≡ false
reply-plain reply.Done = refl
reply-plain (reply.SumOf q) = refl
reply-plain (reply.Records count) = refl
reply-plain (reply.Planned cols uses) =
    rw (list-plain kind_data (λ k. refl) cols, list-plain use_data (λ u. refl) uses) refl
reply-plain (reply.Values charged values) =
    rw (list-plain use_data (λ u. refl) charged, list-plain wide_data (λ n. refl) values) refl
reply-plain (reply.Weights qs) = rw (list-plain weight_data (λ q. refl) qs) refl
reply-plain (reply.Budget left spent total) = refl
reply-plain (reply.Refused r) = refusal-plain r

-- the value of a reply has no float
pub value-plain : (r : Reply) (value : Value) → view value ≡ reply_data r → has_float (view value) ≡ false
value-plain r value is = ap has_float is ∙ reply-plain r
