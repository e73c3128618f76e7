use Rattle.curve_tests.proofs.closures.which_curves_are_subadditive.Given as goal

abbrev pub ghosts-told : goal.ghosts-told
ghosts-told g a = record { name = a.blank.name; parts = a.blank.parts }
