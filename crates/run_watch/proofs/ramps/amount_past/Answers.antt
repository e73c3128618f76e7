use Rattle.std.proofs.Common.{◌∙◌, ◌<◌, length, arith}
use Rattle.run_watch.specs.Ramps.{ReadsRamp}
use Rattle.run_watch.proofs.RampLists.{near_before, amount_found, amount_past, each_ramp_at}
use Rattle.run_watch.proofs.ramps.amount_past.Goals as goal

pub partly-requires : goal.partly-requires
partly-requires c = λ l.
    let inside : c.args.past < length c.args.ramps.now = omega arith in
    each_ramp_at (ReadsRamp c.args.t) c.args.ramps.now c.args.past c.index-ramps-past.result c.requires.fits inside c.index-ramps-past.is l
    (near_before c.args.ramps.now c.args.t c.args.past c.index-ramps-past.result inside c.index-ramps-past.is c.requires.ended.later)

pub returns-then-past-ramps : goal.returns-then-past-ramps
returns-then-past-ramps c =
    let inside : c.args.past < length c.args.ramps.now = omega arith in
    c.partly.ensures
    ∙ amount_found c.args.ramps.now c.args.t c.args.past c.index-ramps-past.result c.requires.ramps inside c.index-ramps-past.is c.requires.ended.before
    (near_before c.args.ramps.now c.args.t c.args.past c.index-ramps-past.result inside c.index-ramps-past.is c.requires.ended.later)

pub returns : goal.returns
returns c = c.all_done.ensures ∙ amount_past c.args.ramps.now c.args.t c.requires.ramps (λ i d a b. c.requires.ended.before i d a (omega arith))
