use Rattle.plain_operators.proofs.pointwise.Leanings.{way_time, under_on}
use Rattle.plain_operators.proofs.pointwise.leaning.higher_step.Goals as goal

pub stretch_at-here-requires : goal.stretch_at-here-requires
stretch_at-here-requires c = way_time c.args.c.now c.args.from c.args.end c.args.reached.until c.requires.span c.requires.reached.way c.requires.before

pub returns : goal.returns
returns c =
    let here = c.stretch_at-here in
    under_on c.args.c.now c.args.from c.args.end c.args.rate c.args.reached here.result c.earlier-until.result c.in_ok-first.first c.in_ok-second.second c.in_ok-icept.icept c.requires.reached c.requires.before here.ensures.goes here.ensures.times
    c.earlier-until.ensures c.in_ok-first.ensures c.in_ok-second.ensures c.in_ok-icept.ensures
