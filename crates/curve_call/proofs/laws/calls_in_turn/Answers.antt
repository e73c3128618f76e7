use Rattle.outcomes.proofs.Calls.{then_determined}
use Rattle.curve_call.proofs.laws.calls_in_turn.Goals as goal

pub returns : goal.returns
returns g c = λ x. then_determined (g.P.Making.answers x) g.Q.Making.answers (g.met.P.Making.determined x)
    g.met.Q.Making.determined
