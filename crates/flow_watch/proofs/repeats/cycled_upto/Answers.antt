use Rattle.std.proofs.lemmas.Option.{IfSome_then}
use Rattle.flow_watch.proofs.Repeated.{first_steps}
use Rattle.flow_watch.proofs.repeats.cycled_upto.Goals as goal

pub returns : goal.returns
returns c =
    IfSome_then c.steps_upto.result c.steps_upto.ensures
    (λ upto K. record { first = first_steps c.in-Some.value c.args.end c.args.cycle.now.period c.args.cycle.now.rise c.args.entries.now c.args.piece.now upto c.in-Some.ensures K; again = λ late. (c.in-Some.value, c.in-Some.ensures, K) })
