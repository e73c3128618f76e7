use Rattle.std.proofs.Common.{refl}
use Rattle.curve_call.specs.declared.made.Made.TheVariants.{Lower}
use Rattle.curve_call.proofs.MadeLoop.{turn_fits, one_pushed, two_pushed}
use Rattle.curve_call.proofs.joining.join_meeting.Goals as goal

pub readable_line-at-requires : goal.readable_line-at-requires
readable_line-at-requires c =
    turn_fits Lower c.args.b.now c.args.to c.in-Some.x c.meeting_of-lie.result c.lower_line-line.result.now c.requires.fits c.meeting_of-lie.ensures c.in-Some.is c.lower_line-line.ensures

pub returns-in-None : goal.returns-in-None
returns-in-None c = λ all J. (
  _,
  one_pushed Lower c.args.b.now c.args.to all _ c.meeting_of-lie.result _ _ c.meeting_of-lie.ensures c.in-None.is refl refl refl,
  c.in_ok-join_first.ensures all J,
)

pub returns-in_ok-join-in-Some : goal.returns-in_ok-join-in-Some
returns-in_ok-join-in-Some c = λ all J. (
  _,
  two_pushed Lower c.args.b.now c.args.to c.in-Some.x all _ _ c.meeting_of-lie.result _ c.readable_line-at.result _ c.lower_line-line.result.now c.meeting_of-lie.ensures c.in-Some.is
      refl refl refl c.lower_line-line.ensures c.readable_line-at.ensures refl,
  c.in_ok-join-in-Some.ensures _ (c.in_ok-join_first.ensures all J),
)
