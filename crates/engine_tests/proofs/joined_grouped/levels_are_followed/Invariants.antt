use Rattle.engine_tests.proofs.joined_grouped.levels_are_followed.Given as goal

abbrev pub ghosts-group : goal.ghosts-group
ghosts-group g a = record { name = a.blank.name; parts = a.blank.parts }
