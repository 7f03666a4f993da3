use Rattle.std.proofs.Common.{refl}
use Rattle.json_fields.proofs.Members.{keys_in-members_view}
use Rattle.json_fields.proofs.unknown_key.Goals as goal

pub loop-key-init : goal.loop-key-init
loop-key-init c = rw (c.into_iter-key-iterator.ensures.into_iter_gives, c.keys-key-items.ensures.rest, keys_in-members_view) refl
