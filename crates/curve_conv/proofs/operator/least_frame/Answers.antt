use Rattle.upp_normal.proofs.NormaliseForm.{ok_map}
use Rattle.curve_conv.proofs.ConvolveCalls.{parts_call, none_wide, frame_by, limits_by}
use Rattle.curve_conv.proofs.operator.least_frame.Goals as goal

pub late_periods-requires : goal.late_periods-requires
late_periods-requires c = parts_call c.args.f.now c.args.g.now c.args.first.now c.args.from c.requires.curves c.requires.window c.requires.from

pub returns-in_default-clause-limits : goal.returns-in_default-clause-limits
returns-in_default-clause-limits c = none_wide c.args.f.now c.args.g.now c.args.first.now c.args.from c.requires.curves c.requires.window c.requires.from (λ k. c.in_default.ensures k)

pub returns-clause-frame : goal.returns-clause-frame
returns-clause-frame c =
    ok_map c.within.result _ _ (λ r h. frame_by c.args.f.now c.args.g.now c.args.first.now c.args.from c.in-Some.periods r c.requires.curves c.requires.window c.requires.from c.in-Some.ensures h) c.within.ensures.frame

pub returns-clause-limits : goal.returns-clause-limits
returns-clause-limits c =
    limits_by c.args.f.now c.args.g.now c.args.first.now c.args.from c.in-Some.periods c.within.result c.requires.curves c.requires.window c.requires.from c.in-Some.ensures c.within.ensures.frame c.within.ensures.refused
