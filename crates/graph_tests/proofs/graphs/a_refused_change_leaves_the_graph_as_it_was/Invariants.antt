use Rattle.graph_tests.proofs.graphs.a_refused_change_leaves_the_graph_as_it_was.Given as goal

abbrev pub ghosts-follow_select : goal.ghosts-follow_select
ghosts-follow_select g a = record { name = a.blank.name; parts = a.blank.parts }
