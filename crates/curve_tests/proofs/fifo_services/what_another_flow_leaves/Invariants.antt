use Rattle.curve_tests.proofs.fifo_services.what_another_flow_leaves.Given as goal

abbrev pub ghosts-service : goal.ghosts-service
ghosts-service g a = record { name = a.blank.name; parts = a.blank.parts }
