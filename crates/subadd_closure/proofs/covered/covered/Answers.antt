use Rattle.std.proofs.Common.{sym, subst}
use Rattle.element_envelope.specs.EnvelopeWindows.{IsEnvelopeWindow}
use Rattle.subadd_closure.specs.Thinned.{StartFrom}
use Rattle.subadd_closure.proofs.Covering.{few_room, ok_covers}
use Rattle.subadd_closure.proofs.covered.covered.Goals as goal

pub envelope-requires : goal.envelope-requires
envelope-requires c =
    few_room c.args.end c.args.xs.now c.args.ys.now c.deref.result.now c.late_start-least.result
    (subst (StartFrom c.late_start-least.result c.args.ys.now) (sym c.deref.ensures.value) c.in_ok-few.ensures) c.requires

pub returns : goal.returns
returns c =
    ok_covers c.thinned.result c.args.end c.late_start-least.result c.args.xs.now c.args.ys.now c.deref.result.now
    c.deref-2.result.now c.late_start-least.ensures
    (subst (StartFrom c.late_start-least.result c.args.ys.now) (sym c.deref.ensures.value) c.in_ok-few.ensures)
    (subst (IsEnvelopeWindow c.args.end c.args.xs.now c.deref.result.now) (sym c.deref-2.ensures.value) c.in_ok-low.ensures)
    c.thinned.ensures
