use Rattle.std.proofs.Common.{◌-◌, ℕ, arith, subst, sym}
use Rattle.arrival_lines.specs.Services.{IsLeft}
use Rattle.arrival_lines.specs.declared.grid.Service.{Service}
use Rattle.arrival_lines.proofs.ServedFirst.{left_below}
use Rattle.arrival_lines.proofs.services.left_service.Goals as goal

pub returns-clause-below : goal.returns-clause-below
returns-clause-below c =
    let s = c.args.service in
    let l = c.args.line in
    subst (λ (d : ℕ). let left : Service = record { rate = s.rate - l.rate; debt = d } in IsLeft s l c.args.packet left) (sym c.in_ok-debt.ensures) (left_below s l c.args.packet (omega arith))
