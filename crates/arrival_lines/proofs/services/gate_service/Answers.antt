use Rattle.std.proofs.Common.{◌+◌, ◌-◌, ◌*◌, ◌/◌, ◌^◌, ◌≡◌, ℕ, ap, ap₂, sym, subst, ◌∙◌}
use Rattle.std.specs.Int.{div_ceil}
use Rattle.arrival_lines.specs.Services.{IsBelowGate}
use Rattle.arrival_lines.specs.declared.grid.Service.{Service}
use Rattle.arrival_lines.proofs.OnGrid.{gate_below}
use Rattle.arrival_lines.proofs.services.gate_service.Goals as goal

pub returns-clause-below : goal.returns-clause-below
returns-clause-below c =
    let rate = c.args.rate in
    let latency = c.args.latency in
    let gate = c.args.gate in
    let up : ℕ → ℕ = λ n. div_ceil n (10 ^ 12) in
    let closed : ℕ → ℕ = λ slower. div_ceil (slower * (gate.cycle - gate.slot)) (10 ^ 12) in
    let e : c.in_ok-debt.debt ≡ div_ceil (rate * latency) (10 ^ 12) + closed (c.times.result / gate.cycle) =
    c.in_ok-debt.ensures ∙ ap₂ (λ (x y : ℕ). x + y) (c.div_ceil-late.ensures ∙ ap up c.times-2.ensures) (c.div_ceil-closed.ensures ∙ ap up c.times-3.ensures) in
    subst (λ (d : ℕ). let s : Service = record { rate = c.times.result / gate.cycle; debt = d } in IsBelowGate rate latency gate s) (sym e)
    (subst (λ (n : ℕ). let s : Service = record { rate = n / gate.cycle; debt = div_ceil (rate * latency) (10 ^ 12) + closed (n / gate.cycle) } in IsBelowGate rate latency gate s) (sym c.times.ensures)
    (gate_below rate latency gate c.requires.some c.requires.slot))
