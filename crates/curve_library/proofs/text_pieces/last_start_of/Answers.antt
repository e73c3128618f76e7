use Rattle.curve_library.proofs.TextLoops.{last_is}
use Rattle.std.proofs.Common.{sym}
use Rattle.curve_library.proofs.text_pieces.last_start_of.Goals as goal

pub returns-in-Some : goal.returns-in-Some
returns-in-Some c = last_is c.args.texts.now c.in-Some.p.now (sym c.in-Some.ensures.value)
