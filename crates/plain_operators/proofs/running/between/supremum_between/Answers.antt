use Rattle.plain_operators.proofs.running.Highest.{between_start, between_step, between_end}
use Rattle.plain_operators.proofs.running.between.supremum_between.Goals as goal

pub loop-i-init : goal.loop-i-init
loop-i-init c = between_start c.args.ps.now c.args.end c.args.from c.args.to c.zero-level.result c.requires.window c.requires.first c.zero-level.ensures

pub loop-i-preserved : goal.loop-i-preserved
loop-i-preserved c =
    between_step c.args.ps.now c.args.end c.loop-i.i c.args.from c.args.to c.loop-i.level c.highest_in.result c.greater-level.result c.loop-i.invariant c.highest_in.ensures.rises
    c.highest_in.ensures.highest c.highest_in.ensures.level c.greater-level.ensures

pub returns-clause-supremum : goal.returns-clause-supremum
returns-clause-supremum c =
    between_end c.args.ps.now c.args.end c.loop-i.i c.args.from c.args.to c.loop-i.level c.loop-i.invariant c.loop-i-test.false c.requires.first c.requires.some
    c.requires.last c.requires.nonneg
