use Rattle.std.proofs.Common.{◌≡◌, ◌+◌, ◌-◌, ◌*◌, arith}
use Rattle.port_bounds.proofs.Debts.{share_fits, share_debt_small}
use Rattle.port_bounds.proofs.services.share_of.Goals as goal

pub unreachable-requires : goal.unreachable-requires
unreachable-requires c =
    let r = c.requires in
    let is : (c.times-others.result + c.times-visits.result) * 1024 ≡ 1024 * (c.args.quantum * (c.args.frames - c.args.longest) + (c.args.quanta - c.args.quantum) * (c.args.quantum + c.args.longest))
    = omega (arith, c.times-others.ensures, c.times-visits.ensures) in
    share_fits c.args.own c.args.quantum c.args.quanta c.args.longest c.args.frames _ r.rate r.debt r.quantum r.frames r.quanta r.longest is c.in-None.ensures.most

pub returns-clause-small : goal.returns-clause-small
returns-clause-small c =
    let r = c.requires in
    let is : (c.times-others.result + c.times-visits.result) * 1024 ≡ 1024 * (c.args.quantum * (c.args.frames - c.args.longest) + (c.args.quanta - c.args.quantum) * (c.args.quantum + c.args.longest))
    = omega (arith, c.times-others.ensures, c.times-visits.ensures) in
    let small = share_debt_small c.args.own.debt c.args.quantum c.args.quanta c.args.longest c.args.frames r.quantum r.frames r.quanta r.longest in
    rw (c.in-Some.ensures.most.1, is) (omega (arith, small, r.debt))
