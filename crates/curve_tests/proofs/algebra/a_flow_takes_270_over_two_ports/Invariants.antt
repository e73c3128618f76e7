use Rattle.curve_tests.proofs.algebra.a_flow_takes_270_over_two_ports.Given as goal

abbrev pub ghosts-delay_over_two_ports : goal.ghosts-delay_over_two_ports
ghosts-delay_over_two_ports g a = record { name = a.blank.name; parts = a.blank.parts }
