use Rattle.curve_conv.proofs.LateNumbers.{late_times, lead_fits}
use Rattle.curve_conv.proofs.number.lead.Goals as goal

pub rise_over-requires : goal.rise_over-requires
rise_over-requires c = let s = c.args.s.now in (late_times s.first.now s.second.now c.args.from c.args.period s.end c.requires).fast_rise.fits

pub rise_over-requires-2 : goal.rise_over-requires-2
rise_over-requires-2 c = let s = c.args.s.now in (late_times s.first.now s.second.now c.args.from c.args.period s.end c.requires).slow_rise.fits

pub difference-requires : goal.difference-requires
difference-requires c =
    let s = c.args.s.now in lead_fits s.first.now s.second.now c.args.from c.args.period s.end c.rise_over.result c.rise_over-2.result c.requires c.rise_over.ensures c.rise_over-2.ensures
