use Rattle.curve_tests.proofs.endings.operators_of_a_curve_that_ends.Given as goal

abbrev pub ghosts-made : goal.ghosts-made
ghosts-made g a = record { name = a.blank.name; parts = a.blank.parts }
