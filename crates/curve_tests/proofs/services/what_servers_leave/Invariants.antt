use Rattle.curve_tests.proofs.services.what_servers_leave.Given as goal

abbrev pub ghosts-left : goal.ghosts-left
ghosts-left g a = record { name = a.blank.name; parts = a.blank.parts }
