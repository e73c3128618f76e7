use Rattle.std.proofs.Common.{[], ◌∷◌}
use Rattle.replies.specs.Ended.{asks_of}
use Rattle.replies.proofs.Fetches.{asked_both, both_on_ok, first_ends, second_ends, stops_at_first, two_fit, two_held, up_to_second}
use Rattle.replies.proofs.fetching.fetch_two.Goals as goal

pub returns-in-Ok-clause-held : goal.returns-in-Ok-clause-held
returns-in-Ok-clause-held g c =
    two_held (g.I.Inputs.content c.args.inputs.now) (g.I.Inputs.content c.fetch_one.new.inputs) c.args.first.now
    c.args.second.now c.in-Ok.bytes c.fetch_after.result c.in-Ok.ensures.held
    (c.fetch_one.ensures.same c.args.second.now) c.fetch_after.ensures.before c.fetch_after.ensures.held

pub returns-in-Ok-clause-fit : goal.returns-in-Ok-clause-fit
returns-in-Ok-clause-fit g c =
    two_fit c.args.most c.in-Ok.bytes c.fetch_after.result c.in-Ok.ensures.fits c.fetch_after.ensures.before
    c.fetch_after.ensures.fits

pub returns-in-Ok-clause-ended : goal.returns-in-Ok-clause-ended
returns-in-Ok-clause-ended g c =
    second_ends c.args.most g.I.Inputs.faults g.I.Inputs.last_fault (g.I.Inputs.content c.args.inputs.now)
    (g.I.Inputs.content c.fetch_one.new.inputs) (asks_of g.I.Inputs.asked c.args.inputs.now c.fetch_after.new.inputs)
    c.args.inputs.now c.fetch_one.new.inputs c.fetch_after.new.inputs c.args.first.now c.args.second.now
    c.fetch_after.result
    (record { bytes = c.in-Ok.bytes.items; held = c.in-Ok.ensures.held; fits = c.in-Ok.ensures.fits })
    c.fetch_one.ensures.count (c.fetch_one.ensures.same c.args.second.now)
    (asked_both (g.I.Inputs.asked c.args.inputs.now) (g.I.Inputs.asked c.fetch_one.new.inputs)
    (g.I.Inputs.asked c.fetch_after.new.inputs) c.args.first.now c.args.second.now c.fetch_one.ensures.asked
    c.fetch_after.ensures.asked)
    c.fetch_after.ensures.ended

pub returns-in-Err-clause-ended : goal.returns-in-Err-clause-ended
returns-in-Err-clause-ended g c =
    first_ends c.args.most g.I.Inputs.faults g.I.Inputs.last_fault (g.I.Inputs.content c.args.inputs.now)
    (asks_of g.I.Inputs.asked c.args.inputs.now c.fetch_one.new.inputs) c.args.inputs.now c.fetch_one.new.inputs
    c.args.first.now (c.args.second.now ∷ []) c.in-Err.unread c.fetch_one.ensures.asked c.in-Err.ensures.ended

-- both are asked for, or the first alone
pub returns-in-Ok-clause-asked : goal.returns-in-Ok-clause-asked
returns-in-Ok-clause-asked g c =
    up_to_second g.I.Inputs.asked g.I.Inputs.had c.args.first.now c.args.second.now c.args.inputs.now c.fetch_one.new.inputs
    c.fetch_after.new.inputs c.fetch_after.result c.in-Ok.ensures.all c.fetch_after.ensures.asked c.fetch_after.ensures.all
    c.fetch_after.ensures.not_had

pub returns-in-Ok-clause-all : goal.returns-in-Ok-clause-all
returns-in-Ok-clause-all g c =
    both_on_ok g.I.Inputs.asked g.I.Inputs.had c.args.first.now c.args.second.now c.args.inputs.now c.fetch_one.new.inputs
    c.fetch_after.new.inputs c.fetch_after.result c.in-Ok.ensures.all c.fetch_after.ensures.all

pub returns-in-Err-clause-asked : goal.returns-in-Err-clause-asked
returns-in-Err-clause-asked g c =
    stops_at_first g.I.Inputs.asked g.I.Inputs.had c.args.first.now (c.args.second.now ∷ []) c.args.inputs.now
    c.fetch_one.new.inputs c.fetch_one.ensures.asked c.in-Err.ensures.not_had
