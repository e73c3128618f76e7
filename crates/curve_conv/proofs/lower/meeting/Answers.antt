use Rattle.std.proofs.Common.{refl, sym, true≢false}
use Rattle.curve_conv.proofs.Lowers.{meeting_before, meeting_after}
use Rattle.curve_conv.proofs.lower.meeting.Goals as goal

pub returns-then-is_less : goal.returns-then-is_less
returns-then-is_less c = meeting_before c.args.steep.now c.args.shallow.now c.args.x c.args.t c.requires.steep c.requires.meet (c.if-is_less.ensures.less.0 refl)

pub returns : goal.returns
returns c = meeting_after c.args.steep.now c.args.shallow.now c.args.x c.args.t c.requires.steep c.requires.meet (λ h. true≢false (sym (c.if-is_less.ensures.less.1 h)))
