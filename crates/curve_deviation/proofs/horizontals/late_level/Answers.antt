use Rattle.curve_deviation.proofs.PeriodsFound.{steady_one_later}
use Rattle.curve_deviation.proofs.horizontals.late_level.Goals as goal

pub returns-in-None-clause-fits : goal.returns-in-None-clause-fits
returns-in-None-clause-fits c = λ z end S h. c.in-None.ensures.fits (steady_one_later z end c.args.c.now S h)
