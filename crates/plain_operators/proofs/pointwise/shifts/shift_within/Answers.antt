use Rattle.std.proofs.Common.{◌∙◌}
use Rattle.rational.specs.declared.Extended.TheVariants.{Fin}
use Rattle.upp_limits.specs.declared.op_kind.OpKind.TheVariants.{Shift}
use Rattle.upp_normal.proofs.NormaliseForm.{ok_map}
use Rattle.curve_call.specs.Frames.{sizes_at}
use Rattle.curve_call.proofs.Operands.{operand_to}
use Rattle.plain_operators.proofs.pointwise.ShiftCall.{shift_call, zero_fits, start_fits, window_pieces, pieces_fit, shift_answer, shift_values}
use Rattle.plain_operators.proofs.pointwise.shifts.shift_within.Goals as goal

pub unrolled-requires : goal.unrolled-requires
unrolled-requires c =
    let f = c.args.f.now in let x = c.args.x in let r = c.args.frame.now in
    let h = shift_call x f r c.requires.time c.requires.frame in
    operand_to (sizes_at (Shift (Fin x)) f f 0 0) r.end f h.facts.limited h.stands

pub left_window-requires-clause-starts : goal.left_window-requires-clause-starts
left_window-requires-clause-starts c =
    let f = c.args.f.now in let x = c.args.x in let r = c.args.frame.now in
    (window_pieces x f r (sizes_at (Shift (Fin x)) f f 0 0) c.deref.result.now (shift_call x f r c.requires.time c.requires.frame) (c.deref.ensures.value ∙ c.in_ok-window.ensures)).starts

pub left_window-requires-clause-zero : goal.left_window-requires-clause-zero
left_window-requires-clause-zero c =
    let f = c.args.f.now in let x = c.args.x in let r = c.args.frame.now in
    zero_fits x f r (sizes_at (Shift (Fin x)) f f 0 0) (shift_call x f r c.requires.time c.requires.frame)

pub left_window-requires-clause-fits : goal.left_window-requires-clause-fits
left_window-requires-clause-fits c =
    let f = c.args.f.now in let x = c.args.x in let r = c.args.frame.now in
    pieces_fit x f r (sizes_at (Shift (Fin x)) f f 0 0) c.deref.result.now (shift_call x f r c.requires.time c.requires.frame) (c.deref.ensures.value ∙ c.in_ok-window.ensures)

pub difference-from-requires : goal.difference-from-requires
difference-from-requires c =
    let f = c.args.f.now in let x = c.args.x in let r = c.args.frame.now in
    start_fits x f r (sizes_at (Shift (Fin x)) f f 0 0) (shift_call x f r c.requires.time c.requires.frame)

pub rise_over-rise-requires : goal.rise_over-rise-requires
rise_over-rise-requires c = (shift_call c.args.x c.args.f.now c.args.frame.now c.requires.time c.requires.frame).rise.fits

pub framed_answer-requires : goal.framed_answer-requires
framed_answer-requires c =
    let f = c.args.f.now in let x = c.args.x in let r = c.args.frame.now in
    let z = sizes_at (Shift (Fin x)) f f 0 0 in
    let h = shift_call x f r c.requires.time c.requires.frame in
    shift_answer x f r z c.deref.result.now c.in_ok-pieces.pieces.items c.difference-from.result c.rise_over-rise.result h
    (window_pieces x f r z c.deref.result.now h (c.deref.ensures.value ∙ c.in_ok-window.ensures)) c.in_ok-pieces.ensures c.difference-from.ensures c.rise_over-rise.ensures

pub returns : goal.returns
returns c =
    let f = c.args.f.now in let x = c.args.x in let r = c.args.frame.now in
    let z = sizes_at (Shift (Fin x)) f f 0 0 in
    let h = shift_call x f r c.requires.time c.requires.frame in
    ok_map c.framed_answer.result _ _
    (λ a k. shift_values x f r z c.deref.result.now c.in_ok-pieces.pieces.items c.difference-from.result c.rise_over-rise.result a h (c.deref.ensures.value ∙ c.in_ok-window.ensures) c.in_ok-pieces.ensures
    c.difference-from.ensures c.rise_over-rise.ensures k)
    c.framed_answer.ensures
