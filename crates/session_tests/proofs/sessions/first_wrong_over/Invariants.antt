use Rattle.session_tests.proofs.sessions.first_wrong_over.Given as goal

abbrev pub ghosts-first_wrong_counted : goal.ghosts-first_wrong_counted
ghosts-first_wrong_counted a = record { name = a.blank.name; parts = a.blank.parts }
