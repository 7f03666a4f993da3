use Rattle.engine_tests.proofs.both_engines.unions_are_followed.Given as goal

abbrev pub ghosts-set : goal.ghosts-set
ghosts-set g a = record { name = a.blank.name; parts = a.blank.parts }
