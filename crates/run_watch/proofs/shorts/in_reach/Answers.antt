use Rattle.std.proofs.Common.{take, refl, sym, subst}
use Rattle.std.proofs.lemmas.List.{take_rest}
use Rattle.rational.specs.Ratio.{SumFits}
use Rattle.flow_watch.specs.watch_laws.Marks.{MostFits}
use Rattle.flow_watch.specs.watch_laws.Shorts.{EachPoint}
use Rattle.flow_watch.specs.declared.watch_laws.mark.Rule.{Rule}
use Rattle.run_watch.proofs.ShortMarks.{fits_most, fits_least, each_taken, rise_taken, reach_as}
use Rattle.run_watch.proofs.shorts.in_reach.Goals as goal

pub far_by-requires-clause-fits : goal.far_by-requires-clause-fits
far_by-requires-clause-fits c =
    subst (λ (r : Rule). EachPoint (λ p. SumFits p.time r.least) c.args.points.now) (sym c.rule_of-rule.ensures) (fits_least c.args.s.now c.args.points.now c.requires.fits)

pub past_by-from-requires-clause-rise : goal.past_by-from-requires-clause-rise
past_by-from-requires-clause-rise c = rise_taken c.far_by.result c.args.points.now _ refl c.requires.rise

pub past_by-from-requires-clause-fits : goal.past_by-from-requires-clause-fits
past_by-from-requires-clause-fits c =
    subst (λ (r : Rule). EachPoint (λ p. MostFits r.most p.time) (take c.far_by.result c.args.points.now)) (sym c.rule_of-rule.ensures)
    (each_taken (λ p. MostFits c.args.s.now.end p.time) c.far_by.result c.args.points.now (fits_most c.args.s.now c.args.points.now c.requires.fits))

pub returns : goal.returns
returns c =
    let fs = take c.far_by.result c.args.points.now in
    reach_as c.args.s.now c.args.points.now fs _ c.rule_of-rule.result c.args.first c.args.last c.far_by.result c.past_by-from.result c.requires.rise refl (take_rest fs c.past_by-from.result) c.rule_of-rule.ensures c.far_by.ensures.late
    c.past_by-from.ensures.past
