use Rattle.demo_input.specs.Demo.{demo_questions, line}
use Rattle.demo_input.proofs.demo_questions.Goals as goal

pub returns : goal.returns
unfolding demo_questions line
returns c = c.as_bytes.ensures.value
