use Rattle.engine_tests.proofs.joined_grouped.pairs_are_followed.Given as goal

abbrev pub ghosts-join : goal.ghosts-join
ghosts-join g a = record { name = a.blank.name; parts = a.blank.parts }
