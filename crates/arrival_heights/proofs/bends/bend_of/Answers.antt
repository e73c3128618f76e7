use Rattle.std.proofs.Common.{inl, inr}
use Rattle.arrival_heights.proofs.Bent.{no_pace, pace_first, sum_first, moment_in}
use Rattle.arrival_heights.proofs.bends.bend_of.Goals as goal

pub returns-in-None : goal.returns-in-None
returns-in-None c = no_pace c.args.part c.in-None.is

pub returns-then-pace-part : goal.returns-then-pace-part
returns-then-pace-part c =
    let part = c.args.part in
    let pace = c.in-Some.pace in
    pace_first part pace c.bend.result c.in-Some.is (λ at is. moment_in part pace at c.in-Some.is c.requires is.bent.some (inl is.over) (inr is.under)) c.bend.ensures

pub returns-else-pace-part : goal.returns-else-pace-part
returns-else-pace-part c =
    let part = c.args.part in
    let pace = c.in-Some.pace in
    sum_first part pace c.bend-else-pace-part.result c.in-Some.is (λ at is. moment_in part pace at c.in-Some.is c.requires is.bent.some (inr is.over) (inl is.under)) c.bend-else-pace-part.ensures
