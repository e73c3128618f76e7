use Rattle.std.proofs.lemmas.Option.{IfSome_then}
use Rattle.plain_operators.proofs.pointwise.Leanings.{below_there}
use Rattle.plain_operators.proofs.pointwise.leaning.soon_by_lines.Goals as goal

pub returns : goal.returns
returns c =
    let w = c.requires in
    IfSome_then c.crossing.result c.crossing.ensures
    (λ s below t i h. below_there w.0 c.args.from c.args.period t c.args.slow.now c.args.fast.now c.in_ok-lines.lines w.1 c.in_ok-lines.ensures i.start (below t h))
