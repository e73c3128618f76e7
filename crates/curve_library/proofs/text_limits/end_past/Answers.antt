use Rattle.rational.proofs.Laws.{le_refl}
use Rattle.curve_library.proofs.text_limits.end_past.Goals as goal

pub keeps_line-requires : goal.keeps_line-requires
keeps_line-requires c = le_refl c.args.last.now.x
