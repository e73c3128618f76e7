use Rattle.std.proofs.Common.{arith, ◌≡◌, ◌∙◌, ◌+◌, suc, subst, sym}
use Rattle.std.proofs.lemmas.Result.{err_from_is_err_and}
use Rattle.rational.specs.Ratio.{IsSmall}
use Rattle.upp_curve.specs.Curves.{IsCurve}
use Rattle.subadd_closure.specs.ElementCurves.{level_closure}
use Rattle.subadd_closure.proofs.SegmentAnswers.{level_unfit, level_wide, level_blind, level_is, level_curve, formed}
use Rattle.subadd_closure.proofs.segments.level.Goals as goal
use Rattle.min_plus.specs.closure_laws.Star.{nat_times}

pub returns-in_err-pieces : goal.returns-in_err-pieces
returns-in_err-pieces c =
    let p = err_from_is_err_and c.from_residual.result c.from_residual.ensures.1 in
    rw (p.1, p.2) (level_unfit c.args.a c.args.b c.args.line.now c.args.m c.requires.normal c.in_err-pieces.field-0.0 c.in_err-pieces.ensures.unfit)

pub returns-in_default : goal.returns-in_default
returns-in_default c =
    let next : suc c.args.m ≡ c.args.m + 1 = omega arith in
    level_wide c.args.a c.args.b c.args.line.now c.args.m c.requires.normal
    (λ h. let k = c.in_default.ensures.fits (subst (λ z. IsSmall (nat_times z c.args.a)) next h) in cc)

pub returns-then-not-slopes_read : goal.returns-then-not-slopes_read
returns-then-not-slopes_read c =
    level_blind c.args.a c.args.b c.args.line.now c.args.m c.deref.result.now (c.deref.ensures.value ∙ c.in_ok-pieces.ensures.made) c.requires.normal
    (λ h. let k = c.slopes_read.ensures.1 h in let n = c.if-not-slopes_read.true in cc)

pub from_normal-requires : goal.from_normal-requires
from_normal-requires c =
    subst IsCurve (sym (level_is c.args.a c.args.b c.args.line.now c.args.m (c.args.m + 1) c.in_ok-pieces.pieces.items c.in-Some.rank (omega arith) c.in_ok-pieces.ensures.made c.in-Some.ensures.value))
    (level_curve c.args.a c.args.b c.args.line.now c.args.m c.deref.result.now (c.deref.ensures.value ∙ c.in_ok-pieces.ensures.made) c.requires.flat c.requires.normal
    (c.slopes_read.ensures.0 c.if-not-slopes_read.false))

pub returns : goal.returns
returns c =
    formed (level_closure c.args.a c.args.b c.args.line.now c.args.m) c.from_normal.result
    (c.from_normal.ensures ∙ level_is c.args.a c.args.b c.args.line.now c.args.m (c.args.m + 1) c.in_ok-pieces.pieces.items c.in-Some.rank (omega arith) c.in_ok-pieces.ensures.made c.in-Some.ensures.value)
    (level_curve c.args.a c.args.b c.args.line.now c.args.m c.deref.result.now (c.deref.ensures.value ∙ c.in_ok-pieces.ensures.made) c.requires.flat c.requires.normal
    (c.slopes_read.ensures.0 c.if-not-slopes_read.false))
