use Rattle.rational.proofs.Laws.{not_zero}
use Rattle.run_watch.proofs.ClassTimes.{periods_seen}
use Rattle.run_watch.proofs.classes.is_periods_after.Goals as goal

pub div-requires : goal.div-requires
div-requires c = not_zero c.args.period c.requires

pub returns : goal.returns
returns c = λ h.
    periods_seen c.args.u c.args.t c.args.period c.in-Ok.gap c.in-Ok-div.count c.whole_part.result c.requires c.in-Ok.ensures.value c.in-Ok-div.ensures.value c.whole_part.ensures (c.eq.ensures.same.0 h)
