use Rattle.operator_tests.proofs.linear.weights_of_one_row_are_summed.Given as goal

abbrev pub ghosts-sum_parts : goal.ghosts-sum_parts
ghosts-sum_parts g a = record { name = a.blank.name; parts = a.blank.parts }
