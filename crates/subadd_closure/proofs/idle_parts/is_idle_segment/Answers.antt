use Rattle.std.proofs.Common.{sym, subst}
use Rattle.std.specs.Prelude.{suc, ◌*◌, ◌<◌, ◌^◌}
use Rattle.rational.specs.Rational.{◌<ℚ◌}
use Rattle.rational.specs.declared.Extended.TheVariants.{Fin}
use Rattle.upp_curve.specs.declared.affine_segment.element.Element.TheVariants.{Open}
use Rattle.min_plus.specs.Functions.{zero_q}
use Rattle.subadd_closure.specs.IdleParts.{IsIdleSegment}
use Rattle.subadd_closure.specs.SegmentLimits.{IsElementOf, IsOverlap}
use Rattle.subadd_closure.proofs.ElementFits.{segment_late}
use Rattle.subadd_closure.proofs.ZeroStars.{closure_leaves}
use Rattle.subadd_closure.proofs.idle_parts.is_idle_segment.Goals as goal

pub returns : goal.returns
returns c told =
    let f = c.args.f.now in
    let a = c.args.a in
    let end = c.in-Fin.end in
    let l = c.args.line.now in
    let m = c.in-Ok.m in
    let n = c.keeps.ensures.normal in
    let part : IsElementOf f (Open a (Fin end) l) = subst (λ z. IsElementOf f (Open a z l)) c.in-Fin.is c.requires.part in
    let over : IsOverlap f a (Fin end) l m = c.in-Ok.ensures.within in
    let late : zero_q <ℚ a = subst (λ z. z <ℚ a) c.zero.ensures (c.is_less.ensures.less.0 c.if-not-is_less.false) in
    let few = c.has_room.ensures.few c.if-not-has_room.false in
    let small = subst (λ g. 3 * (5 * suc m) * (g * g) < 2 ^ 120) c.requires.gauge.0 (c.has_room.ensures.small c.if-not-has_room.false) in
    subst (λ z. IsIdleSegment f a z l) (sym c.in-Fin.is) record {
      within = over.within;
      leaves = closure_leaves f a end l m n c.requires.finite c.requires.nonneg part record {
        stretch = over.stretch;
        late = segment_late f a (Fin end) l n c.requires.finite c.requires.nonneg part;
      } few small late (c.is_late.ensures c.if-not-is_late.false) (c.is_up.ensures c.if-not-is_up.false) (c.is_up-2.ensures told);
    }
