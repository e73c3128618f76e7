use Rattle.std.proofs.Common.{sym, ap₂, subst}
use Rattle.rational.specs.Rational.{◌/ℚ◌}
use Rattle.rational.specs.Ratio.{IsSmall}
use Rattle.upp_curve.proofs.affine_segment.Meeting.{apart, lines_meet}
use Rattle.curve_call.proofs.CrossFits.{apart_fits, closing_fits, quotient_fits}
use Rattle.curve_call.proofs.LinesLie.{meets_by}
use Rattle.curve_call.proofs.lie.lie_by_meeting.Goals as goal

pub difference-apart-requires : goal.difference-apart-requires
difference-apart-requires c = apart_fits c.args.a.now c.args.b.now c.requires.fits

pub difference-closing-requires : goal.difference-closing-requires
difference-closing-requires c = closing_fits c.args.a.now c.args.b.now c.requires.fits

pub quotient-x-requires-clause-some : goal.quotient-x-requires-clause-some
quotient-x-requires-clause-some c = apart c.args.a.now.slope c.args.b.now.slope c.difference-closing.result c.requires.differ c.difference-closing.ensures

pub quotient-x-requires-clause-fits : goal.quotient-x-requires-clause-fits
quotient-x-requires-clause-fits c =
    subst IsSmall (ap₂ (λ x y. x /ℚ y) (sym c.difference-apart.ensures) (sym c.difference-closing.ensures)) (quotient_fits c.args.a.now c.args.b.now c.requires.fits)

pub returns : goal.returns
returns c =
    c.meeting_lie.ensures c.args.a.now c.args.b.now
    (meets_by c.is_less.result c.args.a.now c.args.b.now c.quotient-x.result c.is_less.ensures.less c.requires.differ
    (lines_meet c.args.a.now c.args.b.now c.difference-apart.result c.difference-closing.result c.quotient-x.result c.requires.differ c.difference-apart.ensures c.difference-closing.ensures
    c.quotient-x.ensures))
