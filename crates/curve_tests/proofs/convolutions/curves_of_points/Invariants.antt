use Rattle.curve_tests.proofs.convolutions.curves_of_points.Given as goal

abbrev pub ghosts-convolved : goal.ghosts-convolved
ghosts-convolved g a = record { name = a.blank.name; parts = a.blank.parts }
