-- Replies whose line names a reason alone, as {"ok":false,"why":"json"}.
use Rattle.std.proofs.Common.{◌≡◌, ℕ, List, Some, None, get_or, sym, ap, ◌∙◌, arith}
use Rattle.serde_json.proofs.OnLiterals.{serde_json_on_literals}
use Rattle.reply_text.specs.Replies.{reply_line}
use Rattle.messages.specs.declared.refusal.Refusal.TheVariants as refusal
use Rattle.messages.specs.declared.reply.Reply.{Reply}
use Rattle.messages.specs.declared.reply.Reply.TheVariants as reply

-- the byte at this place of a text
abbrev pub byte : ℕ → List ℕ → ℕ
byte k text = get_or text k 0

-- a line that begins as theirs do, at the places that tell it from all others
pub record BeginsPlain (line : List ℕ) : Type 0 where
  pub o : byte 2 line ≡ 111
  pub f : byte 6 line ≡ 102
  pub w : byte 13 line ≡ 119
  pub y : byte 15 line ≡ 121

-- the reply is one of them, with its reason at the 20th byte of the line and what tells the reasons of a file apart at the 24th
abbrev pub HasReason : Reply → List ℕ → Type 0
HasReason (reply.Refused refusal.Line) line = byte 19 line ≡ 108
HasReason (reply.Refused refusal.Json) line = byte 19 line ≡ 106
HasReason (reply.Refused refusal.Curator) line = byte 19 line ≡ 99
HasReason (reply.Refused refusal.File) line = byte 19 line ≡ 102
HasReason (reply.Refused refusal.FileMissing) line = byte 23 line ≡ 95
HasReason (reply.Refused refusal.FileLong) line = byte 23 line ≡ 95
HasReason (reply.Refused refusal.Noise) line = byte 19 line ≡ 110
HasReason answer line = ⊥

pub plain_reply : (r : Reply) (line : List ℕ) → BeginsPlain line → reply_line r ≡ line → HasReason r line
unfolding reply_line serde_json_on_literals
plain_reply reply.Done line begins e = let h : 116 ≡ 102 = ap (byte 6) e ∙ begins.f in omega (arith, h)
plain_reply (reply.SumOf sum) line begins e = let h : 116 ≡ 102 = ap (byte 6) e ∙ begins.f in omega (arith, h)
plain_reply (reply.Records count) line begins e = let h : 116 ≡ 102 = ap (byte 6) e ∙ begins.f in omega (arith, h)
plain_reply (reply.Planned cols uses) line begins e = let h : 99 ≡ 111 = ap (byte 2) e ∙ begins.o in omega (arith, h)
plain_reply (reply.Values charged values) line begins e = let h : 99 ≡ 111 = ap (byte 2) e ∙ begins.o in omega (arith, h)
plain_reply (reply.Weights weights) line begins e = let h : 116 ≡ 102 = ap (byte 6) e ∙ begins.f in omega (arith, h)
plain_reply (reply.Budget left spent total) line begins e = let h : 108 ≡ 111 = ap (byte 2) e ∙ begins.o in omega (arith, h)
plain_reply (reply.Refused refusal.Line) line begins e = sym (ap (byte 19) e)
plain_reply (reply.Refused refusal.Json) line begins e = sym (ap (byte 19) e)
plain_reply (reply.Refused (refusal.Shape field None)) line begins e = let h : 102 ≡ 111 = ap (byte 2) e ∙ begins.o in omega (arith, h)
plain_reply (reply.Refused (refusal.Shape field (Some place))) line begins e = let h : 102 ≡ 111 = ap (byte 2) e ∙ begins.o in omega (arith, h)
plain_reply (reply.Refused (refusal.Over place limit)) line begins e = let h : 108 ≡ 111 = ap (byte 2) e ∙ begins.o in omega (arith, h)
plain_reply (reply.Refused (refusal.Weight place fault)) line begins e = let h : 97 ≡ 111 = ap (byte 2) e ∙ begins.o in omega (arith, h)
plain_reply (reply.Refused (refusal.Name field)) line begins e = let h : 102 ≡ 111 = ap (byte 2) e ∙ begins.o in omega (arith, h)
plain_reply (reply.Refused (refusal.Exists what name)) line begins e = let h : 110 ≡ 111 = ap (byte 2) e ∙ begins.o in omega (arith, h)
plain_reply (reply.Refused (refusal.Unknown what name)) line begins e = let h : 110 ≡ 111 = ap (byte 2) e ∙ begins.o in omega (arith, h)
plain_reply (reply.Refused (refusal.Full what)) line begins e = let h : 97 ≡ 121 = ap (byte 15) e ∙ begins.y in omega (arith, h)
plain_reply (reply.Refused refusal.Curator) line begins e = sym (ap (byte 19) e)
plain_reply (reply.Refused refusal.File) line begins e = sym (ap (byte 19) e)
plain_reply (reply.Refused refusal.FileMissing) line begins e = sym (ap (byte 23) e)
plain_reply (reply.Refused refusal.FileLong) line begins e = sym (ap (byte 23) e)
plain_reply (reply.Refused (refusal.Csv place what)) line begins e = let h : 114 ≡ 119 = ap (byte 13) e ∙ begins.w in omega (arith, h)
plain_reply (reply.Refused (refusal.RecordRange place)) line begins e = let h : 114 ≡ 119 = ap (byte 13) e ∙ begins.w in omega (arith, h)
plain_reply (reply.Refused (refusal.Negative place)) line begins e = let h : 114 ≡ 119 = ap (byte 13) e ∙ begins.w in omega (arith, h)
plain_reply (reply.Refused (refusal.Plan place what)) line begins e = let h : 115 ≡ 119 = ap (byte 13) e ∙ begins.w in omega (arith, h)
plain_reply (reply.Refused (refusal.Row place)) line begins e = let h : 114 ≡ 119 = ap (byte 13) e ∙ begins.w in omega (arith, h)
plain_reply (reply.Refused (refusal.Repeat place)) line begins e = let h : 114 ≡ 119 = ap (byte 13) e ∙ begins.w in omega (arith, h)
plain_reply (reply.Refused (refusal.SumRange place)) line begins e = let h : 97 ≡ 111 = ap (byte 2) e ∙ begins.o in omega (arith, h)
plain_reply (reply.Refused (refusal.Range plan place)) line begins e = let h : 112 ≡ 119 = ap (byte 13) e ∙ begins.w in omega (arith, h)
plain_reply (reply.Refused (refusal.Budget source left asked)) line begins e = let h : 97 ≡ 111 = ap (byte 2) e ∙ begins.o in omega (arith, h)
plain_reply (reply.Refused refusal.Noise) line begins e = sym (ap (byte 19) e)
