use Rattle.std.proofs.Common.{pos}
use Rattle.rational.specs.Rational.{ℚ, ◌≤ℚ◌, int}
use Rattle.rational.specs.declared.Extended.TheVariants.{Fin}
use Rattle.upp_curve.specs.Curve.{value_at, repeated}
use Rattle.upp_normal.specs.Normalising.{HasValues}
use Rattle.upp_curve.specs.affine_segment.Reading.{read}
use Rattle.min_plus.specs.Running.{IsFifoLeftover}
use Rattle.upp_normal.proofs.NormaliseForm.{ok_map}
use Rattle.plain_operators.proofs.running.LeftAnswers.{LeftScan, rises_fit, rise_steps, ends_fit, scan_call, left_answer, left_value}
use Rattle.plain_operators.proofs.running.leftover.left_within.Goals.{After-sum-far}
use Rattle.plain_operators.proofs.running.leftover.left_within.Goals as goal

pub rises_apart-rise-requires : goal.rises_apart-rise-requires
rises_apart-rise-requires c =
    let f = c.args.beta.now in let g = c.args.cross.now in let r = c.args.frame.now in
    let rises = rise_steps f g c.args.theta r c.requires.call in
    record { left = rises.0; right = rises.1; apart = rises_fit f g c.args.theta r c.requires.call }

pub difference-from-requires : goal.difference-from-requires
difference-from-requires c = (ends_fit c.args.beta.now c.args.cross.now c.args.theta c.args.frame.now c.requires.call).1

pub sum-far-requires : goal.sum-far-requires
sum-far-requires c = (ends_fit c.args.beta.now c.args.cross.now c.args.theta c.args.frame.now c.requires.call).0

-- what is scanned
scan : (c : After-sum-far)
    → LeftScan c.args.beta.now c.args.cross.now c.args.theta c.args.frame.now c.in_ok-pieces.pieces.items c.difference-from.result c.sum-far.result c.rises_apart-rise.result
scan c = record {
  frame = c.requires.call;
  served = c.requires.served;
  window = c.in_ok-pieces.ensures;
  from_is = c.difference-from.ensures;
  far_is = c.sum-far.ensures;
  rise_is = c.rises_apart-rise.ensures;
}

pub lowest_pieces-requires : goal.lowest_pieces-requires
unfolding scan
lowest_pieces-requires c =
    (c.requires.call.sizes, scan_call c.args.beta.now c.args.cross.now c.args.theta c.args.frame.now _ _ _ _ (scan (goal.at.lowest_pieces-requires c).After-sum-far))

pub framed_answer-requires : goal.framed_answer-requires
framed_answer-requires c =
    left_answer c.args.beta.now c.args.cross.now c.args.theta c.args.frame.now _ c.in_ok-lowest.lowest.items _ _ _ (scan (goal.at.framed_answer-requires c).After-sum-far) c.in_ok-lowest.ensures

pub returns : goal.returns
returns c =
    let f = c.args.beta.now in let g = c.args.cross.now in let r = c.args.frame.now in
    let S = scan (goal.at.returns c).After-sum-far in
    ok_map c.framed_answer.result (λ a. HasValues a (repeated (read c.in_ok-lowest.lowest.items) c.difference-from.result r.period c.rises_apart-rise.result))
    (λ a. (t : ℚ) → int (pos 0) ≤ℚ t → IsFifoLeftover (value_at f) (value_at g) (Fin c.args.theta) t (value_at a t))
    (λ a v. left_value f g c.args.theta r _ c.in_ok-lowest.lowest.items _ _ _ a S c.in_ok-lowest.ensures v)
    c.framed_answer.ensures
