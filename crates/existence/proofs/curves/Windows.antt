-- The curve of an answer, from its pieces in the call's window.
use Rattle.std.specs.Prelude.{ℕ, List}
use Rattle.rational.specs.Rational.{ℚ}
use Rattle.upp_curve.specs.declared.affine_segment.line.Piece.{Piece}
use Rattle.upp_curve.specs.affine_segment.Reading.{read}
use Rattle.upp_curve.specs.declared.curve.Tail.TheVariants.{Periodic}
use Rattle.upp_curve.specs.Curve.{SpecCurve, repeated, value_at, HasSameValues}
use Rattle.upp_curve.specs.Curves.{IsCurve}
use Rattle.upp_normal.specs.Normalising.{HasValues}
use Rattle.curve_call.specs.Answering.{IsAnswerWindow}
use Rattle.curve_call.proofs.Answering.{answer_room_is, answer_grids, periodic_grids}
use Rattle.existence.proofs.curves.Forms.{curve_with_room}

seen : (ps : List Piece) (from period rise : ℚ) (c : SpecCurve) → HasSameValues c record { pieces = ps; tail = Periodic from period rise } → HasValues c (repeated (read ps) from period rise)
unfolding value_at
seen ps from period rise c same = same

pub answer_curve : (ps : List Piece) (from period rise : ℚ) (times values : ℕ) → IsAnswerWindow ps from period rise times values
    → (c : SpecCurve) × IsCurve c × HasValues c (repeated (read ps) from period rise)
answer_curve ps from period rise times values h =
    let raw : SpecCurve = record { pieces = ps; tail = Periodic from period rise } in
    let (c, curve, same) = curve_with_room raw times values
    record { starts = h.starts; tail = record { nonneg = h.nonneg; some = h.above; starts = h.before } }
    (periodic_grids ps from period rise times values (answer_grids ps from period rise times values h)) (answer_room_is ps from period rise times values h) in
    (c, curve, seen ps from period rise c same)
