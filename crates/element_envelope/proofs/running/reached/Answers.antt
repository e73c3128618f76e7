use Rattle.std.proofs.Common.{sym, subst}
use Rattle.element_envelope.specs.RunningLines.{MovesTo}
use Rattle.element_envelope.proofs.RunningWindows.{limit_moves, value_moves, before_fits}
use Rattle.element_envelope.proofs.running.reached.Goals as goal

pub line_value-requires : goal.line_value-requires
line_value-requires c = before_fits c.requires.0 c.args.line.now c.args.low.now c.args.before.now c.args.q.now c.requires.1

pub moved_to-limit-requires : goal.moved_to-limit-requires
moved_to-limit-requires c =
    subst (MovesTo c.args.line.now c.args.q.now.x) (sym c.line_value.ensures) (limit_moves c.requires.0 c.args.line.now c.args.low.now c.args.before.now c.args.q.now c.requires.1)

pub moved_to-at-requires : goal.moved_to-at-requires
moved_to-at-requires c = value_moves c.requires.0 c.args.line.now c.args.low.now c.args.before.now c.args.q.now c.requires.1
