use Rattle.std.proofs.Common.{arith}
use Rattle.std.proofs.lemmas.Bool.{iff_false}
use Rattle.arrival_stairs.proofs.NoJumps.{none_at_0}
use Rattle.arrival_stairs.proofs.MoreJumps.{many_from}
use Rattle.arrival_stairs.proofs.counts.last_walked.Goals as goal

pub loop-low-init : goal.loop-low-init
loop-low-init c = record {
  order = omega arith;
  short = omega arith;
  few = let e = none_at_0 c.args.bundles.now in omega (arith, e);
  many = λ n later short. absurd (omega (arith, later, short));
}

pub loop-low-preserved : goal.loop-low-preserved
loop-low-preserved c = record {
  order = omega arith;
  short = let h = c.loop-low.invariant.short in omega (arith, h);
  few = c.loop-low.invariant.few;
  many = λ n later short. many_from c.args.bundles.now _ n 4096 c.requires.stairs (iff_false c.are_few.ensures c.if-are_few.false) (omega (arith, later));
}
