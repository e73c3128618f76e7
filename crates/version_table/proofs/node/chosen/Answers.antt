use Rattle.std.proofs.Common.{sym, ◌∙◌}
use Rattle.version_table.proofs.Puts.{held_there, held_elsewhere}
use Rattle.version_table.proofs.node.chosen.Goals as goal

pub returns-then-at-digit : goal.returns-then-at-digit
returns-then-at-digit g c = λ i at.
    held_there c.args.node.now.value c.args.changed.now.value c.args.digit i (at ∙ c.if-at-digit.true)

pub returns-else-at-digit : goal.returns-else-at-digit
returns-else-at-digit g c = λ i at.
    c.child.ensures i at
    ∙ held_elsewhere c.args.node.now.value c.args.changed.now.value c.args.digit i (λ e. c.if-at-digit.false (sym at ∙ e))
