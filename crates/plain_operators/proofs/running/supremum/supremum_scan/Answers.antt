use Rattle.std.proofs.Common.{sym, subst}
use Rattle.plain_operators.specs.running.Scans.{IsLevel}
use Rattle.plain_operators.proofs.running.Makings.{greater_level}
use Rattle.plain_operators.proofs.running.SupremumLoop.{supremum_start, supremum_step, supremum_end}
use Rattle.plain_operators.proofs.running.supremum.supremum_scan.Goals as goal

pub loop-i-init : goal.loop-i-init
loop-i-init c = rw c.new-out.ensures.items (supremum_start c.args.ps.now c.args.end c.stretch_at.result c.requires.window c.stretch_at.ensures)

pub highest-bend-requires-clause-fits : goal.highest-bend-requires-clause-fits
highest-bend-requires-clause-fits c =
    let S = c.stretch_at-s.ensures in
    let known = greater_level c.args.end c.args.ps.now c.loop-i.level c.stretch_at-s.result.at c.loop-i.invariant.known S.at_level in
    c.requires.fits.meetings c.stretch_at-s.result.line c.greater-top.result S.line (subst (IsLevel c.args.end c.args.ps.now) (sym c.greater-top.ensures) known)

pub loop-i-preserved : goal.loop-i-preserved
loop-i-preserved c =
    supremum_step c.args.ps.now c.args.end c.loop-i.i c.loop-i.level c.loop-i.out.items c.push_bent.new.out.items c.stretch_at-s.result c.greater-top.result
    c.greater.result c.greater-level.result
    c.highest-bend.result c.loop-i.invariant c.stretch_at-s.ensures c.greater-top.ensures c.highest-bend.ensures.follows c.highest-bend.ensures.made
    c.in_ok-push_bent.ensures c.greater.ensures
    c.greater-level.ensures

pub returns : goal.returns
returns c = supremum_end c.args.ps.now c.args.end c.loop-i.i c.loop-i.level c.loop-i.out.items c.requires.window c.loop-i.invariant c.loop-i-test.false c.loop-i.auto.i-end
