use Rattle.std.specs.Prelude.{pos}
use Rattle.std.proofs.Common.{ap, ◌∙◌}
use Rattle.rational.specs.Rational.{int}
use Rattle.run_laws.specs.Runs.{SpecRun}
use Rattle.net_model.specs.stated_runs.FromTraces.{setup_of}
use Rattle.net_model.specs.stated_runs.Simulated.{last_time, IsSimulated}
use Rattle.net_model.proofs.stated_runs.Lawfulness.{simulated_is_lawful}
use Rattle.simulator.proofs.packet_sim.DelayTimes.{simulated_delays_fit}
use Rattle.simulator.proofs.packet_sim.run.run_of.Goals as goal

pub returns-clause-lawful : goal.returns-clause-lawful
returns-clause-lawful c =
    let S = setup_of c.args.net.now c.args.trace.now in
    let run : SpecRun = record { steps = c.run_to_end.new.self.steps.items; end = c.end_of-end.result } in
    let stated : IsSimulated S run =
    record { follows = c.in_ok-run_to_end.ensures.follows; ends = c.end_of-end.ensures ∙ ap (last_time (int (pos 0))) c.deref.ensures.value } in
    simulated_is_lawful S run c.in_ok-simulation.ensures.setup stated

pub returns-clause-fits : goal.returns-clause-fits
returns-clause-fits c =
    let S = setup_of c.args.net.now c.args.trace.now in
    let run : SpecRun = record { steps = c.run_to_end.new.self.steps.items; end = c.end_of-end.result } in
    let stated : IsSimulated S run =
    record { follows = c.in_ok-run_to_end.ensures.follows; ends = c.end_of-end.ensures ∙ ap (last_time (int (pos 0))) c.deref.ensures.value } in
    simulated_delays_fit S c.in_ok-simulation.ensures.grid c.in_ok-simulation.ensures.most c.in_ok-simulation.ensures.fits run stated
