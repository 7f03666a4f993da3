use Rattle.set_tests.proofs.stores.parts_are_changed_by_key.Given as goal

abbrev pub ghosts-change_parts : goal.ghosts-change_parts
ghosts-change_parts g a = record { name = a.blank.name; parts = a.blank.parts }
