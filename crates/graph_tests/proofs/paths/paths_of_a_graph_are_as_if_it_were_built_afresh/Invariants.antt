use Rattle.graph_tests.proofs.paths.paths_of_a_graph_are_as_if_it_were_built_afresh.Given as goal

abbrev pub ghosts-follow_paths : goal.ghosts-follow_paths
ghosts-follow_paths g a = record { name = a.blank.name; parts = a.blank.parts }
