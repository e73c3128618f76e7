use Rattle.std.proofs.Common.{subst, sym}
use Rattle.std.specs.Prelude.{IfOk}
use Rattle.rational.specs.Rational.{◌≤ℚ◌, ◌<ℚ◌}
use Rattle.rational.specs.declared.Extended.TheVariants.{Fin}
use Rattle.upp_curve.specs.declared.affine_segment.element.Element.TheVariants.{Open}
use Rattle.min_plus.specs.Functions.{zero_q}
use Rattle.rational.proofs.Compared.{not_less_out}
use Rattle.subadd_closure.proofs.MeetNumbers.{stretches_meet}
use Rattle.subadd_closure.specs.SegmentLimits.{IsElementOf, IsOverlap, IsOwnGauge}
use Rattle.subadd_closure.proofs.SegmentLimits.{early_stretch, endless_overlap, early_overlap, found_overlap}
use Rattle.subadd_closure.proofs.ElementNumbers.{segment_start, segment_room, lengths_fit}
use Rattle.subadd_closure.proofs.overlaps.overlap.Goals as goal

pub returns-in_default-clause-within : goal.returns-in_default-clause-within
returns-in_default-clause-within c =
    let a = c.args.a in
    let f = c.args.f.now in
    let l = c.args.line.now in
    let low = segment_start f a c.args.b l c.keeps.ensures.normal c.requires.part in
    subst (λ z. IsOverlap f a z l 0) (sym c.in_default.is) (endless_overlap f a l (stretches_meet.endless a low))

pub returns-then-not-is_less-clause-within : goal.returns-then-not-is_less-clause-within
returns-then-not-is_less-clause-within c =
    let a = c.args.a in
    let b = c.in-Fin.end in
    let f = c.args.f.now in
    let l = c.args.line.now in
    let n = c.keeps.ensures.normal in
    let part : IsElementOf f (Open a (Fin b) l) = subst (λ z. IsElementOf f (Open a z l)) c.in-Fin.is c.requires.part in
    let early : a ≤ℚ zero_q =
    subst (λ z. a ≤ℚ z) c.zero.ensures (not_less_out c.is_less.result c.zero.result a c.is_less.ensures.less
    c.if-not-is_less.true) in
    subst (λ z. IsOverlap f a z l 0) (sym c.in-Fin.is)
    (early_overlap f a b l early
    (early_stretch stretches_meet a b (segment_start f a (Fin b) l n part) early (segment_room f a b l n part)))

pub lengths_before-requires-clause-room : goal.lengths_before-requires-clause-room
lengths_before-requires-clause-room c =
    segment_room c.args.f.now c.args.a c.in-Fin.end c.args.line.now c.keeps.ensures.normal
    (subst (λ z. IsElementOf c.args.f.now (Open c.args.a z c.args.line.now)) c.in-Fin.is c.requires.part)

pub lengths_before-requires-clause-fits : goal.lengths_before-requires-clause-fits
lengths_before-requires-clause-fits c =
    let own = subst (IsOwnGauge c.args.f.now) c.in-Some.is c.requires.gauge in
    lengths_fit c.args.f.now c.args.a c.in-Fin.end c.args.line.now c.keeps.ensures.normal own.1
    (subst (λ z. IsElementOf c.args.f.now (Open c.args.a z c.args.line.now)) c.in-Fin.is c.requires.part)

pub returns-in-Some-clause-within : goal.returns-in-Some-clause-within
returns-in-Some-clause-within c =
    let f = c.args.f.now in
    let a = c.args.a in
    let l = c.args.line.now in
    let b = c.in-Fin.end in
    let part = subst (λ z. IsElementOf f (Open a z l)) c.in-Fin.is c.requires.part in
    let own = subst (IsOwnGauge f) c.in-Some.is c.requires.gauge in
    let late : zero_q <ℚ a = subst (λ z. z <ℚ a) c.zero.ensures (c.is_less.ensures.less.0 c.if-not-is_less.false) in
    subst (λ z. IfOk c.within_limits.result (IsOverlap f a z l)) (sym c.in-Fin.is)
    (found_overlap f a b l c.in-Some.own c.lengths_before.result c.within_limits.result late own.0
    c.lengths_before.ensures.value
    c.within_limits.ensures.same c.within_limits.ensures.narrow c.within_limits.ensures.few
    (stretches_meet.ended a b (segment_start f a (Fin b) l c.keeps.ensures.normal part) (segment_room f a b l c.keeps.ensures.normal part)))
