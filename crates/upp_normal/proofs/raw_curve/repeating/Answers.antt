use Rattle.std.proofs.Common.{sym, subst}
use Rattle.upp_normal.specs.Normalising.{HasValues, cycle_values}
use Rattle.upp_normal.proofs.NormaliseForm.{repeating_form}
use Rattle.upp_normal.proofs.NormaliseRoomy.{shares_fit, steps_fit, least_room}
use Rattle.upp_normal.proofs.NormaliseWhole.{repeating_curve}
use Rattle.upp_normal.proofs.raw_curve.repeating.Goals as goal

pub least_period-requires-clause-fits : goal.least_period-requires-clause-fits
least_period-requires-clause-fits c =
    let k = c.args.cycle in
    shares_fit c.requires.room.0 c.args.times c.args.values k.pieces.items k.rank k.period k.rise c.requires.room.1 c.requires.turning.cycle

pub lowest_rank-found-requires-clause-fits : goal.lowest_rank-found-requires-clause-fits
lowest_rank-found-requires-clause-fits c =
    let k = c.args.cycle in
    let l = c.least_period.result in
    steps_fit c.requires.room.0 c.args.times c.args.values l.pieces.items l.rank l.period l.rise
    (least_room c.requires.room.0 c.args.times c.args.values k l c.requires.room.1 c.requires.turning.cycle.some c.least_period.ensures) c.least_period.ensures.turned.cycle.some

pub from_normal-requires : goal.from_normal-requires
from_normal-requires c =
    let f = c.lowest_rank-found.result in
    let e = c.lowest_rank-found.ensures in
    repeating_curve c.requires.room.0 c.args.times c.args.values c.args.cycle c.least_period.result f.pieces.items f.rank f.period f.rise c.requires.room.1
    c.requires.turning.cycle.some c.least_period.ensures e.lowest e.period.0 e.period.1

pub returns : goal.returns
returns c =
    let f = c.lowest_rank-found.result in
    let e = c.lowest_rank-found.ensures in
    subst (λ s. HasValues s (cycle_values c.args.cycle)) (sym c.from_normal.ensures)
    (repeating_form c.args.times c.args.values c.args.cycle c.least_period.result f.pieces.items f.rank f.period f.rise c.least_period.ensures e.lowest e.period.0 e.period.1).same
