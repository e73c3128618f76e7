use Rattle.std.proofs.Common.{ap, sym, subst, ◌∙◌}
use Rattle.subadd_closure.specs.CurveParts.{copies_of}
use Rattle.subadd_closure.specs.PartStars.{turn_of}
use Rattle.subadd_closure.specs.SegmentLimits.{IsOwnGauge}
use Rattle.subadd_closure.proofs.ZeroStars.{part_alone}
use Rattle.subadd_closure.proofs.idle_parts.leaves_as_is.Goals as goal

pub is_idle-requires-clause-gauge : goal.is_idle-requires-clause-gauge
is_idle-requires-clause-gauge c = subst (IsOwnGauge c.args.f.now) c.in-Some.is c.requires.gauge

pub is_idle-requires-clause-alone : goal.is_idle-requires-clause-alone
is_idle-requires-clause-alone c =
    sym (c.turn_of.ensures ∙ ap (λ t. turn_of (copies_of t c.args.e.now)) c.tail.ensures.tail) ∙ c.in-None.is

pub returns-in-None-clause-work : goal.returns-in-None-clause-work
returns-in-None-clause-work c told =
    part_alone c.args.f.now c.args.e.now
    (sym (c.turn_of.ensures ∙ ap (λ t. turn_of (copies_of t c.args.e.now)) c.tail.ensures.tail) ∙ c.in-None.is)

pub is_idle-requires-clause-zero : goal.is_idle-requires-clause-zero
is_idle-requires-clause-zero c = c.is_nought.ensures c.if-not-is_nought.false
