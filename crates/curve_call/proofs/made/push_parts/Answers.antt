use Rattle.curve_call.proofs.MadeLoop.{turn_fits, one_pushed, two_pushed}
use Rattle.curve_call.proofs.made.push_parts.Goals as goal

pub readable_line-at-requires : goal.readable_line-at-requires
readable_line-at-requires c =
    turn_fits c.args.made c.args.b.now c.args.to c.in-Some.x c.lie_of-lie.result c.made_lines-line.result c.requires c.lie_of-lie.ensures c.in-Some.is c.made_lines-line.ensures

pub returns-in-None : goal.returns-in-None
returns-in-None c =
    one_pushed c.args.made c.args.b.now c.args.to c.args.pieces.now.items _ c.lie_of-lie.result c.made_values.result c.made_lines.result c.lie_of-lie.ensures c.in-None.is c.made_values.ensures
    c.made_lines.ensures c.in_ok-push.ensures.items

pub returns-in_ok-push-in-Some : goal.returns-in_ok-push-in-Some
returns-in_ok-push-in-Some c =
    two_pushed c.args.made c.args.b.now c.args.to c.in-Some.x c.args.pieces.now.items _ _ c.lie_of-lie.result c.made_values.result c.readable_line-at.result c.made_lines.result c.made_lines-line.result
    c.lie_of-lie.ensures c.in-Some.is c.made_values.ensures c.made_lines.ensures c.in_ok-push.ensures.items c.made_lines-line.ensures c.readable_line-at.ensures c.in_ok-push-in-Some.ensures.items
