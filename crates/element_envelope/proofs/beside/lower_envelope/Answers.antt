use Rattle.std.proofs.Common.{sym, subst}
use Rattle.element_envelope.specs.EnvelopeWindows.{IsEnvelopeWindow}
use Rattle.element_envelope.proofs.OwnWindows.{beside_ready, ok_beside}
use Rattle.element_envelope.proofs.beside.lower_envelope.Goals as goal

pub envelope-requires : goal.envelope-requires
envelope-requires c = c.requires.room

pub window_lower-requires-clause-left : goal.window_lower-requires-clause-left
window_lower-requires-clause-left c = c.requires.own.starts

pub window_lower-requires-clause-right : goal.window_lower-requires-clause-right
window_lower-requires-clause-right c =
    (subst (IsEnvelopeWindow c.args.end c.args.xs.now c.args.ys.now) (sym c.deref.ensures.value) c.in_ok-pairs.ensures).starts

pub window_lower-requires-clause-cuts : goal.window_lower-requires-clause-cuts
window_lower-requires-clause-cuts c =
    (beside_ready c.args.end c.args.own.now c.deref.result.now c.args.xs.now c.args.ys.now
    (subst (IsEnvelopeWindow c.args.end c.args.xs.now c.args.ys.now) (sym c.deref.ensures.value) c.in_ok-pairs.ensures)
    c.requires).cuts

pub window_lower-requires-clause-fits : goal.window_lower-requires-clause-fits
window_lower-requires-clause-fits c =
    (beside_ready c.args.end c.args.own.now c.deref.result.now c.args.xs.now c.args.ys.now
    (subst (IsEnvelopeWindow c.args.end c.args.xs.now c.args.ys.now) (sym c.deref.ensures.value) c.in_ok-pairs.ensures)
    c.requires).fits

pub returns : goal.returns
returns c =
    ok_beside c.args.end c.args.own.now c.deref.result.now c.args.xs.now c.args.ys.now
    (subst (IsEnvelopeWindow c.args.end c.args.xs.now c.args.ys.now) (sym c.deref.ensures.value) c.in_ok-pairs.ensures)
    c.window_lower.result c.window_lower.ensures
