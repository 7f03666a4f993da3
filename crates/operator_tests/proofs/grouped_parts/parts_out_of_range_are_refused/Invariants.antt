use Rattle.operator_tests.proofs.grouped_parts.parts_out_of_range_are_refused.Given as goal

abbrev pub ghosts-refuse_parts : goal.ghosts-refuse_parts
ghosts-refuse_parts g a = record { name = a.blank.name; parts = a.blank.parts }
