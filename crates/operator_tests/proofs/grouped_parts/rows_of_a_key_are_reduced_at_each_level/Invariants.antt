use Rattle.operator_tests.proofs.grouped_parts.rows_of_a_key_are_reduced_at_each_level.Given as goal

abbrev pub ghosts-group_parts : goal.ghosts-group_parts
ghosts-group_parts g a = record { name = a.blank.name; parts = a.blank.parts }
