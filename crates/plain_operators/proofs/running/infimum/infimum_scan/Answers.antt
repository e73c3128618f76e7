use Rattle.std.proofs.Common.{◌≡◌, ◌<◌, ◌+◌, ◌-◌, arith, length, subst}
use Rattle.plain_operators.proofs.running.SupremumLoop.{window_end}
use Rattle.upp_curve.proofs.affine_segment.PieceOrder.{zero_some}
use Rattle.plain_operators.proofs.running.InfimumLoop.{InfimumLoop, infimum_start, infimum_next, infimum_end}
use Rattle.plain_operators.proofs.running.infimum.infimum_scan.Goals as goal

pub loop-i-init : goal.loop-i-init
loop-i-init c =
    let some : 0 < length c.args.ps.now = zero_some c.args.ps.now c.requires.window.starts in
    let last : length c.args.ps.now - 1 + 1 ≡ length c.args.ps.now = omega arith in
    rw c.new-out.ensures.items (infimum_start c.args.ps.now c.args.end (length c.args.ps.now - 1) c.stretch_at-level.result last c.stretch_at-level.ensures)

pub lowest-bend-requires-clause-fits : goal.lowest-bend-requires-clause-fits
lowest-bend-requires-clause-fits c = c.requires.fits.meetings c.stretch_at-s.result.line c.loop-i.level c.stretch_at-s.ensures.line c.loop-i.invariant.known

pub loop-i-preserved : goal.loop-i-preserved
loop-i-preserved c =
    infimum_next c.args.ps.now c.args.end c.loop-i.i c.loop-i.level c.loop-i.out.items c.push_back.new.out.items c.stretch_at-s.result c.lesser.result
    c.lesser-in-loop-i.result c.lesser-level.result
    c.lowest-bend.result c.loop-i-test.true c.loop-i.invariant c.stretch_at-s.ensures c.lowest-bend.ensures.follows c.lowest-bend.ensures.made c.lesser.ensures
    c.lesser-in-loop-i.ensures
    c.lesser-level.ensures c.in_ok-push_back.ensures

pub returns : goal.returns
returns c =
    let none : c.loop-i.i ≡ 0 = omega arith in
    infimum_end c.args.ps.now c.args.end c.loop-i.level c.loop-i.out.items c.reverse.new.self.items c.requires.window (window_end c.args.end c.args.ps.now c.requires.window)
    (subst (λ n. InfimumLoop c.args.ps.now c.args.end n c.loop-i.level c.loop-i.out.items) none c.loop-i.invariant) c.reverse.ensures.items
