use Rattle.operator_tests.proofs.many_shave_set.pieces_end_with_the_weight.Given as goal

abbrev pub ghosts-shave : goal.ghosts-shave
ghosts-shave g a = record { name = a.blank.name; parts = a.blank.parts }
