use Rattle.std.proofs.Common.{◌+◌, ◌∙◌, min, ap}
use Rattle.std.specs.Int.{div_ceil}
use Rattle.arrival_lines.specs.declared.grid.Line.{Line}
use Rattle.arrival_lines.proofs.Lowest.{least_is}
use Rattle.arrival_lines.proofs.deviations.backlog.Goals as goal

pub returns : goal.returns
returns c = λ parts are.
    let service = c.args.service in
    let slow = c.count_faster-slow.ensures in
    let none : Line = record { burst = 0; rate = 0 } in
    let is = c.min.ensures ∙ ap (λ n. min n c.height.result) c.div_ceil-plain.ensures ∙ ap (λ n. min (div_ceil (c.args.excess + (service.debt + c.args.longest)) 1024) n) c.height.ensures in
    least_is c.args.steps.now c.args.excess service c.args.longest c.count_faster-slow.result c.lowest-at.result c.min.result none c.lowest-at.ensures.inside.0
    c.lowest-at.ensures.inside.1 slow.faster slow.slower (c.lowest-at.ensures.least parts are) is
