use Rattle.engine_tests.proofs.both_engines.rows_that_pass_are_followed.Given as goal

abbrev pub ghosts-filter : goal.ghosts-filter
ghosts-filter g a = record { name = a.blank.name; parts = a.blank.parts }
