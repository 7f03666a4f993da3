use Rattle.json_fields.proofs.Members.{data_list-items_of}
use Rattle.json_fields.proofs.list_of.Goals as goal

pub returns-in-Some : goal.returns-in-Some
returns-in-Some c = rw (c.as_slice.ensures.value, ← c.in-Some.ensures, data_list-items_of)
