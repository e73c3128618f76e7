use Rattle.std.proofs.Common.{sym, true≢false, subst}
use Rattle.rational.specs.Rational.{◌≤ℚ◌}
use Rattle.rational.proofs.Compared.{is_less, not_less}
use Rattle.upp_curve.proofs.LineRising.{rises_by_tests, falls}
use Rattle.upp_curve.proofs.shape.line_rises.Goals as goal

pub returns-in-Less : goal.returns-in-Less
returns-in-Less c = (
  λ h. absurd (true≢false (sym h)),
  λ h. absurd (falls c.args.p.now c.args.line.now c.args.next c.zero.result c.requires.line c.zero.ensures (is_less c.cmp.result c.cmp.ensures.ranks c.in-Less.is) h),
)

pub returns : goal.returns
returns c =
    let up = subst (λ z. z ≤ℚ c.args.line.now.slope) c.zero.ensures (not_less c.cmp.result c.cmp.ensures.ranks c.in_default.not-Less) in
    let same = rises_by_tests c.args.p.now c.args.line.now c.args.next c.line_at.result c.requires.line c.line_at.ensures up (c.at_most.ensures.0 c.if-not-at_most.false) in
    (λ h. same.0 (c.ends_below.ensures.0 h), λ h. c.ends_below.ensures.1 (same.1 h))
