use Rattle.prim_table.proofs.apply.+after.Given as goal

abbrev pub decreases-after : goal.decreases-after
decreases-after l = l.left_out
