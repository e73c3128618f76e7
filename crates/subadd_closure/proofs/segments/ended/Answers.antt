use Rattle.std.proofs.Common.{subst, ◌∙◌}
use Rattle.rational.specs.Rational.{◌<ℚ◌}
use Rattle.rational.specs.declared.Extended.TheVariants.{Fin}
use Rattle.upp_curve.specs.declared.affine_segment.element.Element.TheVariants.{Open}
use Rattle.rational.proofs.Compared.{is_less, is_greater, is_equal}
use Rattle.subadd_closure.specs.ElementCurves.{level_closure, rising_closure, falling_closure}
use Rattle.subadd_closure.proofs.SegmentAnswers.{ready_answer, ready_level, ready_rising, ready_falling, some_a, some_b}
use Rattle.subadd_closure.proofs.segments.ended.Goals as goal

pub falling-requires-clause-some : goal.falling-requires-clause-some
falling-requires-clause-some c =
    some_a c.args.a c.args.b c.args.line.now c.args.m c.requires.part (subst (λ z. c.args.line.now.icept <ℚ z) c.zero.ensures (is_less c.cmp.result c.cmp.ensures.ranks c.in-Less.is))

pub falling-requires-clause-normal : goal.falling-requires-clause-normal
falling-requires-clause-normal c =
    (ready_falling c.args.a c.args.b c.args.line.now c.args.m c.requires.part (subst (λ z. c.args.line.now.icept <ℚ z) c.zero.ensures (is_less c.cmp.result c.cmp.ensures.ranks c.in-Less.is))).normal

pub level-requires-clause-normal : goal.level-requires-clause-normal
level-requires-clause-normal c =
    (ready_level c.args.a c.args.b c.args.line.now c.args.m c.requires.part (is_equal c.cmp.result c.cmp.ensures.ranks c.in-Equal.is ∙ c.zero.ensures)).normal

pub rising-requires-clause-some : goal.rising-requires-clause-some
rising-requires-clause-some c = some_b c.args.a c.args.b c.args.line.now c.args.m c.requires.part

pub rising-requires-clause-normal : goal.rising-requires-clause-normal
rising-requires-clause-normal c =
    (ready_rising c.args.a c.args.b c.args.line.now c.args.m c.requires.part (subst (λ z. z <ℚ c.args.line.now.icept) c.zero.ensures (is_greater c.cmp.result c.cmp.ensures.ranks c.in-Greater.is))).normal

pub returns-in-Less : goal.returns-in-Less
returns-in-Less c =
    ready_answer (Open c.args.a (Fin c.args.b) c.args.line.now) (falling_closure c.args.a c.args.b c.args.line.now c.args.m) c.falling.result
    (ready_falling c.args.a c.args.b c.args.line.now c.args.m c.requires.part (subst (λ z. c.args.line.now.icept <ℚ z) c.zero.ensures (is_less c.cmp.result c.cmp.ensures.ranks c.in-Less.is)))
    c.falling.ensures

pub returns-in-Equal : goal.returns-in-Equal
returns-in-Equal c =
    ready_answer (Open c.args.a (Fin c.args.b) c.args.line.now) (level_closure c.args.a c.args.b c.args.line.now c.args.m) c.level.result
    (ready_level c.args.a c.args.b c.args.line.now c.args.m c.requires.part (is_equal c.cmp.result c.cmp.ensures.ranks c.in-Equal.is ∙ c.zero.ensures)) c.level.ensures

pub returns-in-Greater : goal.returns-in-Greater
returns-in-Greater c =
    ready_answer (Open c.args.a (Fin c.args.b) c.args.line.now) (rising_closure c.args.a c.args.b c.args.line.now c.args.m) c.rising.result
    (ready_rising c.args.a c.args.b c.args.line.now c.args.m c.requires.part (subst (λ z. z <ℚ c.args.line.now.icept) c.zero.ensures (is_greater c.cmp.result c.cmp.ensures.ranks c.in-Greater.is)))
    c.rising.ensures
