use Rattle.std.proofs.Common.{rules}
use Rattle.std.proofs.lemmas.Bool.{and_parts}
use Rattle.plan_model.specs.declared.expr.Expr.{the_lemmas}
use Rattle.plan_model.proofs.expr.Expr.+kind_in.Goals as goal

pub kind_in-requires-in-Two-2 : goal.kind_in-requires-in-Two-2
kind_in-requires-in-Two-2 t c = search (rules, the_lemmas, and_parts)

pub kind_in-requires-in-Three-2 : goal.kind_in-requires-in-Three-2
kind_in-requires-in-Three-2 t c = search (rules, the_lemmas, and_parts)

pub kind_in-requires-in-Three-3 : goal.kind_in-requires-in-Three-3
kind_in-requires-in-Three-3 t c = search (rules, the_lemmas, and_parts)
