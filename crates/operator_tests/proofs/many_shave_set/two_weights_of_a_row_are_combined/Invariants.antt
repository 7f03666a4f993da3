use Rattle.operator_tests.proofs.many_shave_set.two_weights_of_a_row_are_combined.Given as goal

abbrev pub ghosts-combine : goal.ghosts-combine
ghosts-combine g a = record { name = a.blank.name; parts = a.blank.parts }
