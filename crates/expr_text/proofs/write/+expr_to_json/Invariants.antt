use Rattle.plan_model.specs.Limits.{node_count}
use Rattle.plan_model.specs.Values.{term_of}
use Rattle.expr_text.proofs.write.+expr_to_json.Given as goal

abbrev pub decreases-expr_to_json : goal.decreases-expr_to_json
decreases-expr_to_json l = node_count (term_of l.expr.now)
