use Rattle.std.proofs.Common.{◌≡◌, map, string_bytes}
use Rattle.std.specs.Prelude.{find}
use Rattle.serde_json.specs.View.{members_view}
use Rattle.json_fields.specs.Fields.{is_none_of, first_unknown}
use Rattle.json_fields.proofs.unknown_key.Given as goal

abbrev pub invariant-loop-key : goal.invariant-loop-key
invariant-loop-key l =
    find (is_none_of (map (λ name. name.now) l.known)) (map string_bytes l.key-iterator)
    ≡ first_unknown (map (λ name. name.now) l.known) (members_view l.members.entries)
