use Rattle.std.proofs.Common.{arith, ap}
use Rattle.std.proofs.lemmas.Bool.{iff_false}
use Rattle.arrival_heights.specs.Heights.{ahead_of}
use Rattle.arrival_heights.proofs.Split.{no_bend, not_between, bends_between}
use Rattle.arrival_heights.proofs.greatest.height_at_bend.Goals as goal

pub returns-in-None-clause-bound : goal.returns-in-None-clause-bound
returns-in-None-clause-bound c = λ rate. no_bend c.args.parts.now rate c.args.part c.args.begin c.args.end c.in-None.ensures

pub returns-then-is_between-clause-bound : goal.returns-then-is_between-clause-bound
returns-then-is_between-clause-bound c = λ rate.
    let (late, early) = c.is_between.ensures.0 c.if-is_between.true in
    bends_between c.args.parts.now rate c.args.part c.args.begin c.args.end (ahead_of rate c.height_at.result) c.in-Some.at c.in-Some.ensures
    (omega (arith, late)) (omega (arith, early)) (ap (ahead_of rate) c.height_at.ensures)

pub returns-else-is_between-clause-bound : goal.returns-else-is_between-clause-bound
returns-else-is_between-clause-bound c = λ rate.
    not_between c.args.parts.now rate c.args.part c.args.begin c.args.end c.in-Some.at c.in-Some.ensures
    (λ late early. iff_false c.is_between.ensures c.if-is_between.false (late, early))
