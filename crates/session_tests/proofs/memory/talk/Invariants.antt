use Rattle.session_tests.proofs.memory.talk.Given as goal

abbrev pub ghosts-talk_counted : goal.ghosts-talk_counted
ghosts-talk_counted a = record { name = a.blank.name; parts = a.blank.parts }
