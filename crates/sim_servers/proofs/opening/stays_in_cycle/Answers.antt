use Rattle.std.specs.Prelude.{Some}
use Rattle.std.proofs.Common.{sym, subst, refl}
use Rattle.rational.specs.Rational.{◌≤ℚ◌, ◌<ℚ◌}
use Rattle.net_model.specs.stated_runs.Setups.{IsGateOpen, StaysTo}
use Rattle.sim_servers.specs.Openings.{gate_times}
use Rattle.sim_servers.proofs.Cycles.{close_fits, stays_always, stays_to_close, stays_to_end}
use Rattle.sim_servers.proofs.opening.stays_in_cycle.Goals as goal
use Rattle.rational.proofs.Compared.{least_by_test}

pub sum-close-requires : goal.sum-close-requires
sum-close-requires c =
    close_fits (gate_times c.args.gate.now) c.args.from c.cycle_begin-begin.result c.requires.gate c.requires.room c.cycle_begin-begin.ensures

pub returns-then-not-is_less : goal.returns-then-not-is_less
returns-then-not-is_less c =
    let g = gate_times c.args.gate.now in
    stays_always g c.requires.gate c.args.from c.args.until (least_by_test g.slot g.cycle c.if-not-is_less.ensures.less) c.requires.room.time.from_zero c.requires.forward

pub returns-then-is_less : goal.returns-then-is_less
returns-then-is_less c =
    let g = gate_times c.args.gate.now in
    subst (λ y. StaysTo (IsGateOpen (Some g)) c.args.from c.args.until y) (sym c.sum-close.ensures)
    (stays_to_close g c.requires.gate c.args.from c.cycle_begin-begin.result c.args.until (c.if-not-is_less.ensures.less.0 refl) c.cycle_begin-begin.ensures
    c.requires.open_then (subst (λ y. y <ℚ c.args.until) c.sum-close.ensures (c.if-is_less.ensures.less.0 refl)))

pub returns : goal.returns
returns c =
    let g = gate_times c.args.gate.now in
    stays_to_end g c.args.from c.cycle_begin-begin.result c.args.until c.cycle_begin-begin.ensures c.requires.forward
    (subst (λ y. c.args.until ≤ℚ y) c.sum-close.ensures (least_by_test c.sum-close.result c.args.until c.if-is_less.ensures.less))
