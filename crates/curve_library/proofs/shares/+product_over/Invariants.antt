use Rattle.curve_library.proofs.shares.+product_over.Given as goal

abbrev pub decreases-product_over : goal.decreases-product_over
decreases-product_over l = l.n
