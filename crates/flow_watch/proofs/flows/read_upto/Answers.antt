use Rattle.std.proofs.Common.{refl}
use Rattle.rational.proofs.Laws.{lt_irrefl, lt_le_trans}
use Rattle.flow_watch.proofs.flows.read_upto.Goals as goal

pub returns-then-is_less-clause-keeps : goal.returns-then-is_less-clause-keeps
returns-then-is_less-clause-keeps c = λ early. absurd (lt_irrefl c.args.far (lt_le_trans (c.if-is_less.ensures.less.0 refl) early))

pub returns-clause-keeps : goal.returns-clause-keeps
returns-clause-keeps c = λ early. c.piece_upto.ensures.keeps
