use Rattle.std.proofs.Common.{arith, sym}
use Rattle.run_watch.proofs.RampLists.{none_later}
use Rattle.run_watch.proofs.ramps.is_ended.Goals as goal

pub returns-then-count-ramps-2 : goal.returns-then-count-ramps-2
returns-then-count-ramps-2 c = λ yes. record { few = omega arith; before = c.are_ended.ensures c.if-not-are_ended.false; later = λ i d a b. absurd (omega arith) }

pub returns-else-ends_before : goal.returns-else-ends_before
returns-else-ends_before c = λ yes. record {
  few = omega arith;
  before = c.are_ended.ensures c.if-not-are_ended.false;
  later = none_later c.args.ramps.now c.args.t c.args.count c.index-ramps-count.result c.requires (omega arith) c.index-ramps-count.is (sym c.if-ends_before.ensures);
}
