use Rattle.std.proofs.Common.{refl}
use Rattle.rational.proofs.Laws.{lt_irrefl, lt_le_trans}
use Rattle.sim_servers.proofs.opening.past_stall.Goals as goal

pub returns-then-is_less-clause-over : goal.returns-then-is_less-clause-over
returns-then-is_less-clause-over c = λ h. absurd (lt_irrefl c.args.time (lt_le_trans (c.if-is_less.ensures.less.0 refl) h))
