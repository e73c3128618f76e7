use Rattle.std.proofs.Common.{subst}
use Rattle.curve_call.specs.Frames.{IsRefusedAt}
use Rattle.curve_call.proofs.Tallies.{wide_between, many_between}
use Rattle.curve_call.proofs.between.refuse_between.Goals as goal

pub returns-in-Err-TooWide : goal.returns-in-Err-TooWide
returns-in-Err-TooWide c =
    let a = c.args in
    let refused = subst (IsRefusedAt a.op.now a.f.now a.g.now a.low 0) c.in-Err-TooWide.field-0-is c.in-Err-TooWide.ensures.refused in
    wide_between a.op.now a.f.now a.g.now a.low a.high c.requires.curves.0 c.requires.curves.1 c.requires.forward refused

pub returns-in-Err-TooMany-within : goal.returns-in-Err-TooMany-within
returns-in-Err-TooMany-within c =
    let a = c.args in
    let low = subst (IsRefusedAt a.op.now a.f.now a.g.now a.low 0) c.in-Err-TooMany.field-0-is c.in-Err-TooMany.ensures.refused in
    let high = subst (IsRefusedAt a.op.now a.f.now a.g.now a.high 0) c.in-Err-TooMany-within.field-0-is c.in-Err-TooMany-within.ensures.refused in
    many_between a.op.now a.f.now a.g.now a.low a.high c.requires.curves.0 c.requires.curves.1 c.requires.forward low.1 high.0
