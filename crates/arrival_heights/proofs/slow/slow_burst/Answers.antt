use Rattle.std.proofs.Common.{arith, ap}
use Rattle.std.proofs.lemmas.List.{get_or_default}
use Rattle.arrival_lines.specs.declared.grid.Line.{Line}
use Rattle.arrival_heights.proofs.slow.slow_burst.Goals as goal

pub returns-then-faster-steps : goal.returns-then-faster-steps
returns-then-faster-steps c = record { each = λ k d h. c.count_faster-faster.ensures.faster k d (omega arith) }

pub returns : goal.returns
returns c =
    let at = c.count_faster-faster.result in
    record {
      step = at;
      inside = omega arith;
      slow = λ d. c.count_faster-faster.ensures.slower at d (omega arith) (omega arith);
      is = λ d. ap (λ (line : Line). line.burst) (get_or_default c.args.steps.now at _ d (omega arith));
    }
