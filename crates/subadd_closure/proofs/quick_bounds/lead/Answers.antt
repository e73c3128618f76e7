use Rattle.curve_conv.proofs.LateNumbers.{late_times, lead_fits}
use Rattle.subadd_closure.proofs.quick_bounds.lead.Goals as goal

pub rise_over-requires : goal.rise_over-requires
rise_over-requires c = (late_times c.args.slow.now c.args.fast.now c.args.from c.args.period c.args.end c.requires).fast_rise.fits

pub rise_over-requires-2 : goal.rise_over-requires-2
rise_over-requires-2 c = (late_times c.args.slow.now c.args.fast.now c.args.from c.args.period c.args.end c.requires).slow_rise.fits

pub difference-requires : goal.difference-requires
difference-requires c =
    lead_fits c.args.slow.now c.args.fast.now c.args.from c.args.period c.args.end c.rise_over.result c.rise_over-2.result c.requires c.rise_over.ensures c.rise_over-2.ensures
