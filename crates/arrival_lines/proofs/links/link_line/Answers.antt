use Rattle.std.proofs.Common.{◌*◌, ◌^◌, ◌≡◌, arith, subst, ◌∙◌}
use Rattle.std.specs.Int.{div_ceil}
use Rattle.arrival_lines.proofs.Units.{up_covers}
use Rattle.arrival_lines.proofs.OnGrid.{stair_found}
use Rattle.arrival_lines.proofs.links.link_line.Goals as goal

pub returns-clause-above : goal.returns-clause-above
returns-clause-above c =
    let rate = c.in_ok-rate.rate in
    let early = c.div_ceil-early.result in
    let fast = up_covers (c.args.packet * 10 ^ 12) c.args.period rate (omega arith) (c.in_ok-rate.ensures ∙ c.link_rate.ensures) in
    let e = subst (λ n. early ≡ div_ceil n (10 ^ 12)) c.times.ensures c.div_ceil-early.ensures in
    let less = up_covers (rate * c.args.jitter) (10 ^ 12) early (omega arith) e in
    stair_found c.args.packet c.args.period c.args.jitter rate early c.line_of.result (omega arith) (omega (arith, fast)) (omega (arith, less)) c.line_of.ensures
