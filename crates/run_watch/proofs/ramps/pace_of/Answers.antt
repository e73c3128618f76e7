use Rattle.std.proofs.Common.{◌∙◌, sym, refl}
use Rattle.run_watch.proofs.RampLists.{longer}
use Rattle.run_watch.proofs.ramps.pace_of.Goals as goal

pub quotient-requires-clause-some : goal.quotient-requires-clause-some
quotient-requires-clause-some c = λ e. longer c.args.s.now (c.if-is_less.ensures.less.0 refl) (sym c.difference.ensures ∙ e)
