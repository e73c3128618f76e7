use Rattle.std.proofs.Common.{◌∙◌, ◌<◌, length, arith}
use Rattle.run_watch.proofs.RampLists.{near_by, after_found, after_past}
use Rattle.run_watch.proofs.ramps.pace_after.Goals as goal

pub returns-then-past-ramps : goal.returns-then-past-ramps
returns-then-past-ramps c =
    let inside : c.args.past < length c.args.ramps.now = omega arith in
    c.paced_after.ensures
    ∙ after_found c.args.ramps.now c.args.t c.args.past c.index-ramps-past.result c.requires.ramps c.requires.time inside c.index-ramps-past.is c.requires.ended.by
    (near_by c.args.ramps.now c.args.t c.args.past c.index-ramps-past.result inside c.index-ramps-past.is c.requires.ended.later)

pub returns : goal.returns
returns c = c.zero.ensures ∙ after_past c.args.ramps.now c.args.t c.requires.ramps (λ i d a b. c.requires.ended.by i d a (omega arith))
