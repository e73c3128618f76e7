use Rattle.std.proofs.Common.{◌∙◌, ap, sym}
use Rattle.curve_call.specs.Sides.{shown_curve}
use Rattle.curve_call.proofs.Levels.{level_rate}
use Rattle.curve_call.proofs.sides.Side.rate.Goals as goal

pub returns-in-Level : goal.returns-in-Level
returns-in-Level c = level_rate c.args.self.now c.in-Level.field-0 c.zero.result (sym c.self.view_is ∙ ap shown_curve c.in-Level.is) c.zero.ensures
