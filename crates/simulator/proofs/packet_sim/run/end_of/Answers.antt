use Rattle.std.proofs.Common.{◌∙◌}
use Rattle.rational.specs.Rational.{int}
use Rattle.std.specs.Prelude.{pos}
use Rattle.simulator.proofs.packet_sim.Last.{last_is}
use Rattle.simulator.proofs.packet_sim.run.end_of.Goals as goal

pub returns-in-Some : goal.returns-in-Some
returns-in-Some c = c.time_of.ensures ∙ last_is (int (pos 0)) c.args.steps.now c.in-Some.step.now c.in-Some.ensures.value
