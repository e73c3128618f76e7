use Rattle.std.proofs.Common.{◌<◌, ◌^◌, arith, sym, subst}
use Rattle.arrival_lines.specs.declared.grid.Service.{Service}
use Rattle.port_bounds.proofs.Debts.{own_rate_small, own_debt_small}
use Rattle.port_bounds.proofs.services.own_service.Goals as goal

pub unreachable-requires : goal.unreachable-requires
unreachable-requires c =
    let small = own_debt_small c.args.port.now c.requires in
    omega (arith, c.in-None.ensures, small)

pub returns-clause-rate : goal.returns-clause-rate
returns-clause-rate c = subst (λ (s : Service). s.rate < 2 ^ 61) (sym c.in-Some.ensures) (own_rate_small c.args.port.now c.requires)

pub returns-clause-debt : goal.returns-clause-debt
returns-clause-debt c = subst (λ (s : Service). s.debt < 2 ^ 61) (sym c.in-Some.ensures) (own_debt_small c.args.port.now c.requires)
