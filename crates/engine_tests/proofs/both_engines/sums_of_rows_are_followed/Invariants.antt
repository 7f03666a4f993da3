use Rattle.engine_tests.proofs.both_engines.sums_of_rows_are_followed.Given as goal

abbrev pub ghosts-select : goal.ghosts-select
ghosts-select g a = record { name = a.blank.name; parts = a.blank.parts }
