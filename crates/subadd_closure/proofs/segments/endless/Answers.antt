use Rattle.std.proofs.Common.{subst}
use Rattle.rational.specs.Rational.{◌<ℚ◌, ◌≤ℚ◌}
use Rattle.rational.specs.declared.Extended.TheVariants.{Inf}
use Rattle.upp_curve.specs.declared.affine_segment.element.Element.TheVariants.{Open}
use Rattle.min_plus.specs.Functions.{zero_q}
use Rattle.rational.proofs.Compared.{not_less_out}
use Rattle.subadd_closure.specs.ElementCurves.{level_closure, falling_closure}
use Rattle.subadd_closure.proofs.SegmentAnswers.{ready_answer, ready_endless_level, ready_endless_falling, endless_some}
use Rattle.subadd_closure.proofs.segments.endless.Goals as goal

pub falling-requires-clause-some : goal.falling-requires-clause-some
falling-requires-clause-some c =
    endless_some c.args.a c.args.line.now c.requires.part (subst (λ z. c.args.line.now.icept <ℚ z) c.zero.ensures (c.is_less.ensures.less.0 c.if-is_less.true))

pub falling-requires-clause-normal : goal.falling-requires-clause-normal
falling-requires-clause-normal c =
    (ready_endless_falling c.args.a c.zero-then-is_less.result c.args.line.now c.requires.part
    (subst (λ z. c.args.line.now.icept <ℚ z) c.zero.ensures (c.is_less.ensures.less.0 c.if-is_less.true))).normal

pub returns-then-is_less : goal.returns-then-is_less
returns-then-is_less c =
    ready_answer (Open c.args.a Inf c.args.line.now) (falling_closure c.args.a c.zero-then-is_less.result c.args.line.now 0) c.falling.result
    (ready_endless_falling c.args.a c.zero-then-is_less.result c.args.line.now c.requires.part
    (subst (λ z. c.args.line.now.icept <ℚ z) c.zero.ensures (c.is_less.ensures.less.0 c.if-is_less.true))) c.falling.ensures

pub single-requires-clause-normal : goal.single-requires-clause-normal
single-requires-clause-normal c =
    (ready_endless_level c.args.a zero_q c.args.line.now c.requires.part
    (subst (λ z. z ≤ℚ c.args.line.now.icept) c.zero.ensures (not_less_out c.is_less.result c.args.line.now.icept c.zero.result c.is_less.ensures.less c.if-is_less.false))).normal

pub returns : goal.returns
returns c =
    ready_answer (Open c.args.a Inf c.args.line.now) (level_closure c.args.a zero_q c.args.line.now 0) c.single.result
    (ready_endless_level c.args.a zero_q c.args.line.now c.requires.part
    (subst (λ z. z ≤ℚ c.args.line.now.icept) c.zero.ensures (not_less_out c.is_less.result c.args.line.now.icept c.zero.result c.is_less.ensures.less c.if-is_less.false))) c.single.ensures
