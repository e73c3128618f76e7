use Rattle.std.proofs.Common.{refl, sym, subst, arith}
use Rattle.rational.specs.Rational.{◌<ℚ◌}
use Rattle.subadd_closure.proofs.QuickCurves.{begins_late, not_less}
use Rattle.subadd_closure.proofs.quick_bounds.begins_late.Goals as goal

pub returns-then-is_nothing : goal.returns-then-is_nothing
returns-then-is_nothing c late =
    let long = c.if-pieces-lt2.false in
    let nothing = c.if-is_nothing.ensures refl in
    begins_late c.args.c.now c.pieces-pieces.result.now c.index-pieces-0.result c.index-pieces-1.result c.tail.result.now
    c.in-Periodic.rank c.in-Periodic.period c.in-Periodic.rise c.pieces-pieces.ensures.kept c.tail.ensures.tail
    c.in-Periodic.is c.pieces-pieces.ensures.pieces (omega (arith, long)) c.index-pieces-0.is c.index-pieces-1.is nothing.0
    nothing.1 (subst (λ z. ¬ (z.x <ℚ c.in-Periodic.rank)) (sym c.index-pieces-1.is) (not_less c.is_less.result late c.is_less.ensures.less))
