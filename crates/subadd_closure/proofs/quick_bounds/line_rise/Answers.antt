use Rattle.rational.proofs.Laws.{not_zero}
use Rattle.subadd_closure.proofs.QuickCurves.{line_run}
use Rattle.subadd_closure.proofs.quick_bounds.line_rise.Goals as goal

pub div-requires : goal.div-requires
div-requires c = not_zero c.args.period c.requires

pub returns-in-Ok-mul : goal.returns-in-Ok-mul
returns-in-Ok-mul c =
    line_run c.args.rise c.args.period c.args.t c.in-Ok.rate c.in-Ok-mul.gain c.requires c.in-Ok.ensures.value
    c.in-Ok-mul.ensures.value
