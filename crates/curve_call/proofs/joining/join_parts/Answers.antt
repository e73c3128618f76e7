use Rattle.std.proofs.Common.{refl}
use Rattle.std.specs.Prelude.{None}
use Rattle.curve_call.specs.declared.made.Made.TheVariants.{Lower}
use Rattle.curve_call.proofs.MadeLoop.{one_pushed}
use Rattle.curve_call.proofs.joining.join_parts.Goals as goal

pub returns-in_ok-join_first-in-Some : goal.returns-in_ok-join_first-in-Some
returns-in_ok-join_first-in-Some c = λ all J. (
  _,
  one_pushed Lower c.args.b.now c.args.to all _ record { below = c.in-Some.below; turn = None } _ _ c.in-Some.ensures refl refl refl refl,
  c.in_ok-join_first-in-Some.ensures all J,
)
