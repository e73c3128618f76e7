use Rattle.curve_lang.proofs.ValueTimes.{not_narrow}
use Rattle.curve_lang.proofs.values.is_narrow.Goals as goal

pub returns-in-None : goal.returns-in-None
returns-in-None c = not_narrow c.args.f.now c.args.t c.args.end c.requires c.in-None.ensures
