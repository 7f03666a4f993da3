use Rattle.graph_tests.proofs.stores.only_stores.Given as goal

abbrev pub ghosts-follow_edge : goal.ghosts-follow_edge
ghosts-follow_edge g a = record { name = a.blank.name; parts = a.blank.parts }
