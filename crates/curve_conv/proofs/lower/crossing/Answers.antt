use Rattle.std.specs.Prelude.{Some}
use Rattle.std.proofs.Common.{sym, true≢false}
use Rattle.curve_conv.proofs.Lowers.{steeper, under_turned}
use Rattle.curve_conv.proofs.lower.crossing.Goals as goal

pub returns-then-is_less : goal.returns-then-is_less
returns-then-is_less c = under_turned (Some c.args.m.now) (Some c.args.l.now) c.args.t c.meeting.result c.meeting.ensures

pub meeting-requires-2-clause-steep : goal.meeting-requires-2-clause-steep
meeting-requires-2-clause-steep c = steeper c.args.l.now.slope c.args.m.now.slope c.requires.apart (λ h. true≢false (sym (c.if-is_less.ensures.less.1 h)))
