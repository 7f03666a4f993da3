use Rattle.operator_tests.proofs.many_shave_set.a_row_is_spread_by_shares.Given as goal

abbrev pub ghosts-spread : goal.ghosts-spread
ghosts-spread g a = record { name = a.blank.name; parts = a.blank.parts }
