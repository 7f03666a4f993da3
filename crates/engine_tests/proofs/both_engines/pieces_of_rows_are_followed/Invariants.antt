use Rattle.engine_tests.proofs.both_engines.pieces_of_rows_are_followed.Given as goal

abbrev pub ghosts-shave : goal.ghosts-shave
ghosts-shave g a = record { name = a.blank.name; parts = a.blank.parts }
