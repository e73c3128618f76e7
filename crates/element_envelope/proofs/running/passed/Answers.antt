use Rattle.std.specs.Prelude.{None}
use Rattle.std.proofs.Common.{sym, subst}
use Rattle.element_envelope.specs.RunningLines.{MovesTo}
use Rattle.element_envelope.proofs.RunningWindows.{after_moves, after_fits}
use Rattle.element_envelope.proofs.running.passed.Goals as goal

pub line_value-requires : goal.line_value-requires
line_value-requires c = after_fits c.requires.0 c.args.line.now c.args.low.now None c.args.q.now c.requires.1

pub moved_to-requires : goal.moved_to-requires
moved_to-requires c =
    subst (MovesTo c.args.line.now c.args.q.now.x) (sym c.line_value.ensures) (after_moves c.requires.0 c.args.line.now c.args.low.now None c.args.q.now c.requires.1)
