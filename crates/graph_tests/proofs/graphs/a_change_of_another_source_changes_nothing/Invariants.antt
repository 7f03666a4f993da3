use Rattle.graph_tests.proofs.graphs.a_change_of_another_source_changes_nothing.Given as goal

abbrev pub ghosts-follow_filter : goal.ghosts-follow_filter
ghosts-follow_filter g a = record { name = a.blank.name; parts = a.blank.parts }
