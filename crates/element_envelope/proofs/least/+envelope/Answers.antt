use Rattle.std.proofs.Common.{arith, ℕ, ◌++◌, take, drop, ap₂, sym, ◌∙◌, subst, List, ◌≡◌}
use Rattle.std.proofs.lemmas.List.{take-append-drop}
use Rattle.upp_curve.specs.declared.affine_segment.element.Element.{Element}
use Rattle.element_envelope.specs.EnvelopeWindows.{IsEnvelopeWindow}
use Rattle.element_envelope.proofs.EnvelopeHalves.{none_left, none_right, none_late, empty_is, left_front, left_back, right_front, right_back, left_ready, right_ready, left_halves, right_halves, ok_lower, ok_nothing}
use Rattle.element_envelope.proofs.least.+envelope.Goals as goal

-- the two parts make the whole
joined_is : (front back xs : List Element) (k : ℕ) → front ≡ take k xs → back ≡ drop k xs → front ++ back ≡ xs
joined_is front back xs k e f = ap₂ (λ (ps qs : List Element). ps ++ qs) e f ∙ take-append-drop k xs

pub returns-then-xs-eq0 : goal.returns-then-xs-eq0
returns-then-xs-eq0 t c =
    ok_nothing c.nothing.result c.args.end c.args.xs.now c.args.ys.now (none_left c.args.end c.args.xs.now c.args.ys.now (empty_is c.args.xs.now c.if-xs-eq0.true)) c.nothing.ensures

pub returns-then-ys-eq0 : goal.returns-then-ys-eq0
returns-then-ys-eq0 t c =
    ok_nothing c.nothing-then-ys-eq0.result c.args.end c.args.xs.now c.args.ys.now (none_right c.args.end c.args.xs.now c.args.ys.now (empty_is c.args.ys.now c.if-ys-eq0.true)) c.nothing-then-ys-eq0.ensures

pub envelope-requires : goal.envelope-requires
envelope-requires t c = (
  omega (arith, c.split_at.ensures.front_len, c.if-xs-gt1.true),
  left_front c.args.end c.args.xs.now c.split_at.result.0.now c.split_at.result.1.now c.args.ys.now (joined_is _ _ c.args.xs.now _ c.split_at.ensures.front c.split_at.ensures.back) c.requires,
)

pub envelope-requires-then-xs-gt1 : goal.envelope-requires-then-xs-gt1
envelope-requires-then-xs-gt1 t c = (
  omega (arith, c.split_at.ensures.back_len, c.if-xs-gt1.true),
  left_back c.args.end c.args.xs.now c.split_at.result.0.now c.split_at.result.1.now c.args.ys.now (joined_is _ _ c.args.xs.now _ c.split_at.ensures.front c.split_at.ensures.back) c.requires,
)

pub envelope-requires-then-ys-gt1 : goal.envelope-requires-then-ys-gt1
envelope-requires-then-ys-gt1 t c = (
  omega (arith, c.split_at-then-ys-gt1.ensures.front_len, c.if-ys-gt1.true),
  right_front c.args.end c.args.xs.now c.args.ys.now c.split_at-then-ys-gt1.result.0.now c.split_at-then-ys-gt1.result.1.now (joined_is _ _ c.args.ys.now _ c.split_at-then-ys-gt1.ensures.front c.split_at-then-ys-gt1.ensures.back) c.requires,
)

pub envelope-requires-then-ys-gt1-2 : goal.envelope-requires-then-ys-gt1-2
envelope-requires-then-ys-gt1-2 t c = (
  omega (arith, c.split_at-then-ys-gt1.ensures.back_len, c.if-ys-gt1.true),
  right_back c.args.end c.args.xs.now c.args.ys.now c.split_at-then-ys-gt1.result.0.now c.split_at-then-ys-gt1.result.1.now (joined_is _ _ c.args.ys.now _ c.split_at-then-ys-gt1.ensures.front c.split_at-then-ys-gt1.ensures.back) c.requires,
)

pub window_lower-requires-clause-cuts : goal.window_lower-requires-clause-cuts
window_lower-requires-clause-cuts t c =
    (left_ready c.args.end c.args.xs.now c.split_at.result.0.now c.split_at.result.1.now c.args.ys.now c.deref.result.now c.deref-then-xs-gt1.result.now
    (joined_is _ _ c.args.xs.now _ c.split_at.ensures.front c.split_at.ensures.back) c.requires
    (subst (IsEnvelopeWindow c.args.end c.split_at.result.0.now c.args.ys.now) (sym c.deref.ensures.value) c.in_ok-f.ensures)
    (subst (IsEnvelopeWindow c.args.end c.split_at.result.1.now c.args.ys.now) (sym c.deref-then-xs-gt1.ensures.value) c.in_ok-g.ensures)).cuts

pub window_lower-requires-clause-fits : goal.window_lower-requires-clause-fits
window_lower-requires-clause-fits t c =
    (left_ready c.args.end c.args.xs.now c.split_at.result.0.now c.split_at.result.1.now c.args.ys.now c.deref.result.now c.deref-then-xs-gt1.result.now
    (joined_is _ _ c.args.xs.now _ c.split_at.ensures.front c.split_at.ensures.back) c.requires
    (subst (IsEnvelopeWindow c.args.end c.split_at.result.0.now c.args.ys.now) (sym c.deref.ensures.value) c.in_ok-f.ensures)
    (subst (IsEnvelopeWindow c.args.end c.split_at.result.1.now c.args.ys.now) (sym c.deref-then-xs-gt1.ensures.value) c.in_ok-g.ensures)).fits

pub window_lower-requires-then-ys-gt1-clause-cuts : goal.window_lower-requires-then-ys-gt1-clause-cuts
window_lower-requires-then-ys-gt1-clause-cuts t c =
    let s = c.split_at-then-ys-gt1 in
    (right_ready c.args.end c.args.xs.now c.args.ys.now s.result.0.now s.result.1.now c.deref-then-ys-gt1.result.now c.deref-then-ys-gt1-2.result.now
    (joined_is _ _ c.args.ys.now _ s.ensures.front s.ensures.back) c.requires
    (subst (IsEnvelopeWindow c.args.end c.args.xs.now s.result.0.now) (sym c.deref-then-ys-gt1.ensures.value) c.in_ok-f-2.ensures)
    (subst (IsEnvelopeWindow c.args.end c.args.xs.now s.result.1.now) (sym c.deref-then-ys-gt1-2.ensures.value) c.in_ok-g-2.ensures)).cuts

pub window_lower-requires-then-ys-gt1-clause-fits : goal.window_lower-requires-then-ys-gt1-clause-fits
window_lower-requires-then-ys-gt1-clause-fits t c =
    let s = c.split_at-then-ys-gt1 in
    (right_ready c.args.end c.args.xs.now c.args.ys.now s.result.0.now s.result.1.now c.deref-then-ys-gt1.result.now c.deref-then-ys-gt1-2.result.now
    (joined_is _ _ c.args.ys.now _ s.ensures.front s.ensures.back) c.requires
    (subst (IsEnvelopeWindow c.args.end c.args.xs.now s.result.0.now) (sym c.deref-then-ys-gt1.ensures.value) c.in_ok-f-2.ensures)
    (subst (IsEnvelopeWindow c.args.end c.args.xs.now s.result.1.now) (sym c.deref-then-ys-gt1-2.ensures.value) c.in_ok-g-2.ensures)).fits

pub returns-then-xs-gt1 : goal.returns-then-xs-gt1
returns-then-xs-gt1 t c =
    ok_lower c.window_lower.result c.deref.result.now c.deref-then-xs-gt1.result.now c.args.end c.args.xs.now c.args.ys.now
    (λ ps L.
    left_halves c.args.end c.args.xs.now c.split_at.result.0.now c.split_at.result.1.now c.args.ys.now c.deref.result.now c.deref-then-xs-gt1.result.now ps
    (joined_is _ _ c.args.xs.now _ c.split_at.ensures.front c.split_at.ensures.back)
    (subst (IsEnvelopeWindow c.args.end c.split_at.result.0.now c.args.ys.now) (sym c.deref.ensures.value) c.in_ok-f.ensures)
    (subst (IsEnvelopeWindow c.args.end c.split_at.result.1.now c.args.ys.now) (sym c.deref-then-xs-gt1.ensures.value) c.in_ok-g.ensures) L)
    c.window_lower.ensures

pub returns-then-are_late : goal.returns-then-are_late
returns-then-are_late t c =
    ok_nothing c.nothing-then-are_late.result c.args.end c.args.xs.now c.args.ys.now (none_late c.args.end c.args.xs.now c.args.ys.now (c.are_late.ensures c.if-are_late.true)) c.nothing-then-are_late.ensures

pub returns-then-ys-gt1 : goal.returns-then-ys-gt1
returns-then-ys-gt1 t c =
    let s = c.split_at-then-ys-gt1 in
    ok_lower c.window_lower-then-ys-gt1.result c.deref-then-ys-gt1.result.now c.deref-then-ys-gt1-2.result.now c.args.end c.args.xs.now c.args.ys.now
    (λ ps L.
    right_halves c.args.end c.args.xs.now c.args.ys.now s.result.0.now s.result.1.now c.deref-then-ys-gt1.result.now c.deref-then-ys-gt1-2.result.now ps
    (joined_is _ _ c.args.ys.now _ s.ensures.front s.ensures.back)
    (subst (IsEnvelopeWindow c.args.end c.args.xs.now s.result.0.now) (sym c.deref-then-ys-gt1.ensures.value) c.in_ok-f-2.ensures)
    (subst (IsEnvelopeWindow c.args.end c.args.xs.now s.result.1.now) (sym c.deref-then-ys-gt1-2.ensures.value) c.in_ok-g-2.ensures) L)
    c.window_lower-then-ys-gt1.ensures
