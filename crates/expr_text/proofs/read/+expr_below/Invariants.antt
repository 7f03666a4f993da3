use Rattle.expr_text.proofs.read.+expr_below.Given as goal

abbrev pub decreases-expr_below : goal.decreases-expr_below
decreases-expr_below l = l.levels
