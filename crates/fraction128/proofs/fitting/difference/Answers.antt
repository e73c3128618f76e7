use Rattle.std.proofs.Common.{◌∙◌, refl}
use Rattle.fraction128.proofs.Turned.{difference_is}
use Rattle.fraction128.proofs.fitting.difference.Goals as goal

pub returns : goal.returns
returns c = c.sum.ensures ∙ difference_is c.args.a c.negated.result c.args.a c.args.b refl c.negated.ensures
