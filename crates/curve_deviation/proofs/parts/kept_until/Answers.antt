use Rattle.upp_curve.specs.declared.curve.Tail.TheVariants.{Affine, Infinite}
use Rattle.curve_deviation.proofs.EarlyParts.{kept_first, kept_whole}
use Rattle.curve_deviation.proofs.parts.kept_until.Goals as goal

pub returns-in-Periodic-clause-until : goal.returns-in-Periodic-clause-until
returns-in-Periodic-clause-until c =
    kept_first c.args.c.now c.tail.result.now c.in-Periodic.rank c.in-Periodic.period c.in-Periodic.rise c.args.end c.sum.result c.lesser.result c.tail.ensures.tail c.in-Periodic.is c.sum.ensures c.lesser.ensures

pub returns-in-Affine-clause-until : goal.returns-in-Affine-clause-until
returns-in-Affine-clause-until c = kept_whole c.args.c.now c.tail.result.now (Affine c.in-Affine.rank) c.args.end c.tail.ensures.tail c.in-Affine.is tt

pub returns-in-Infinite-clause-until : goal.returns-in-Infinite-clause-until
returns-in-Infinite-clause-until c = kept_whole c.args.c.now c.tail.result.now (Infinite c.in-Infinite.rank) c.args.end c.tail.ensures.tail c.in-Infinite.is tt
