use Rattle.std.specs.Prelude.{Some}
use Rattle.std.proofs.Common.{sym, subst, refl}
use Rattle.rational.specs.Rational.{◌≤ℚ◌, ◌<ℚ◌}
use Rattle.net_model.specs.stated_runs.Setups.{IsFirstGateOpen}
use Rattle.sim_servers.specs.Openings.{gate_times}
use Rattle.sim_servers.proofs.GridSteps.{sum_fits}
use Rattle.sim_servers.proofs.Cycles.{begin_is_time, close_fits, opens_now, opens_next}
use Rattle.sim_servers.proofs.opening.opens_in_cycle.Goals as goal
use Rattle.rational.proofs.Compared.{least_by_test}

pub sum-close-requires : goal.sum-close-requires
sum-close-requires c =
    close_fits (gate_times c.args.gate.now) c.args.from c.cycle_begin-begin.result c.requires.gate c.requires.room c.cycle_begin-begin.ensures

pub sum-requires : goal.sum-requires
sum-requires c =
    let g = gate_times c.args.gate.now in
    let r = c.requires.room in
    sum_fits r.grid r.most c.cycle_begin-begin.result g.cycle r.room
    (begin_is_time g r.grid r.most c.args.from c.cycle_begin-begin.result c.requires.gate c.cycle_begin-begin.ensures r.gate_is.0 r.time) r.gate_is.0

pub returns-then-is_less : goal.returns-then-is_less
returns-then-is_less c =
    opens_now (gate_times c.args.gate.now) c.args.from c.cycle_begin-begin.result c.cycle_begin-begin.ensures
    (subst (λ y. c.args.from <ℚ y) c.sum-close.ensures (c.if-is_less.ensures.less.0 refl))

pub returns : goal.returns
returns c =
    let g = gate_times c.args.gate.now in
    subst (λ y. IsFirstGateOpen (Some g) c.args.from y) (sym c.sum.ensures)
    (opens_next g c.requires.gate c.args.from c.cycle_begin-begin.result c.cycle_begin-begin.ensures
    (subst (λ y. y ≤ℚ c.args.from) c.sum-close.ensures (least_by_test c.args.from c.sum-close.result c.if-is_less.ensures.less)))
