use Rattle.net_text.proofs.Folding.{keeps_closing}
use Rattle.net_text.proofs.closing.closed.Goals as goal

pub returns-clause-answer : goal.returns-clause-answer
returns-clause-answer g c =
    keeps_closing c.args.f.now c.close.result c.close.ensures.own c.requires.finite c.requires.nonneg
    c.close.ensures.answer
