use Rattle.std.proofs.Common.{◌<◌, ◌-◌, ◌∙◌, length, ap, arith}
use Rattle.rational.specs.Rational.{◌-ℚ◌}
use Rattle.flow_watch.specs.Flows.{last_time}
use Rattle.flow_watch.proofs.LeastFirst.{read_is}
use Rattle.flow_watch.specs.declared.watch_laws.entering.Entering.{Entering}
use Rattle.flow_watch.proofs.flows.reach_of.Goals as goal

pub returns-in-Ok : goal.returns-in-Ok
returns-in-Ok c =
    let es = c.args.entries.now in
    let f = c.index-entries-0.result in
    let l = c.index-entries-back.result in
    let some : 0 < length es = omega arith in
    let first = read_is es 0 f some c.index-entries-0.is in
    let last = read_is es (length es - 1) l (omega arith) c.index-entries-back.is in
    c.in-Ok.ensures.value ∙ ap (λ (e : Entering). e.time -ℚ f.time) last ∙ ap (λ (e : Entering). last_time es -ℚ e.time) first
