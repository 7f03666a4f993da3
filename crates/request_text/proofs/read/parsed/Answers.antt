use Rattle.std.proofs.Common.{refl}
use Rattle.serde_json.specs.Errors.{IsMemory}
use Rattle.request_text.specs.Requests.{request_in_json}
use Rattle.request_text.proofs.Lines.{value_of-read, value_of-refused}
use Rattle.request_text.proofs.read.parsed.Goals as goal

pub returns-in-Ok-clause-value : goal.returns-in-Ok-clause-value
unfolding request_in_json
returns-in-Ok-clause-value c = rw (value_of-read c.args.line.now _ c.in-Ok.ensures.ok.0 c.in-Ok.ensures.ok.1) c.request.ensures.value

pub returns-else-is_memory-clause-value : goal.returns-else-is_memory-clause-value
unfolding request_in_json
returns-else-is_memory-clause-value c =
    let other : ¬ IsMemory c.in-Err.e = λ m. let t = c.is_memory.ensures.1 m in cc in
    rw (value_of-refused c.args.line.now (c.in-Err.ensures.err other)) refl
