use Rattle.engine_tests.proofs.both_engines.shares_of_rows_are_followed.Given as goal

abbrev pub ghosts-many : goal.ghosts-many
ghosts-many g a = record { name = a.blank.name; parts = a.blank.parts }
