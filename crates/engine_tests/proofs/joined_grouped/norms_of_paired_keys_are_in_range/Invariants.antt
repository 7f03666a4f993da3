use Rattle.engine_tests.proofs.joined_grouped.norms_of_paired_keys_are_in_range.Given as goal

abbrev pub ghosts-join : goal.ghosts-join
ghosts-join g a = record { name = a.blank.name; parts = a.blank.parts }
