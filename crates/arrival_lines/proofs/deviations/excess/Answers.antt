use Rattle.std.proofs.Common.{◌-◌, arith}
use Rattle.arrival_lines.proofs.Excesses.{excess_at, excess_between, endless}
use Rattle.arrival_lines.proofs.deviations.excess.Goals as goal

pub returns-then-faster-steps : goal.returns-then-faster-steps
returns-then-faster-steps c = λ parts are.
    endless parts c.args.steps.now c.args.rate are (λ k d h. c.count_faster-faster.ensures.faster k d (omega arith))

pub returns-then-faster-eq0 : goal.returns-then-faster-eq0
returns-then-faster-eq0 c = λ parts are.
    let at = c.count_faster-faster.result in
    excess_at parts c.args.steps.now c.args.rate at _ (omega arith) are (c.count_faster-faster.ensures.slower at _ (omega arith) (omega arith))

pub cut-requires-clause-slow : goal.cut-requires-clause-slow
cut-requires-clause-slow c = c.count_faster-faster.ensures.slower c.count_faster-faster.result _ (omega arith) (omega arith)

pub cut-requires-clause-fast : goal.cut-requires-clause-fast
cut-requires-clause-fast c = c.count_faster-faster.ensures.faster (c.count_faster-faster.result - 1) _ (omega arith)

pub returns : goal.returns
returns c = λ parts are.
    let at = c.count_faster-faster.result in
    excess_between parts c.args.steps.now c.args.rate c.cut.result (at - 1) at _ (omega arith) are (omega arith)
    (c.count_faster-faster.ensures.faster (at - 1) _ (omega arith)) (c.count_faster-faster.ensures.slower at _ (omega arith) (omega arith)) c.cut.ensures.above c.cut.ensures.least
