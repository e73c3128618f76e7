use Rattle.std.specs.Prelude.{◌++◌, ◌<◌}
use Rattle.std.proofs.Common.{sym, subst, ap, ◌∙◌}
use Rattle.curve_conv.specs.Scans.{sizes_in}
use Rattle.curve_conv.specs.SpanElements.{listed}
use Rattle.curve_conv.specs.Stretches.{point_at, open_at}
use Rattle.curve_conv.proofs.GridSteps.{steps_while}
use Rattle.curve_conv.proofs.PartLoops.{walk_fewer}
use Rattle.curve_conv.proofs.SpanLoops.{SpanWalk, span_start, span_time, span_facts, span_step, span_end}
use Rattle.curve_conv.proofs.made.span_elements.Goals as goal

pub cells-init : goal.cells-init
cells-init c =
    let s = c.args.s.now in
    let z = sizes_in s.first.now s.second.now s.end in
    span_start z c.args.c.now c.args.from c.args.until.now c.limit_of-limit.result s.end c.new-elements.result.items c.is_less-more.result c.requires.from c.new-elements.ensures.items c.is_less-more.ensures.less

pub stretch_at-here-requires : goal.stretch_at-here-requires
stretch_at-here-requires c =
    let s = c.args.s.now in
    let z = sizes_in s.first.now s.second.now s.end in
    let W = subst (λ b. SpanWalk z c.args.c.now c.args.from c.args.until.now c.limit_of-limit.result s.end c.cells.elements.items b c.cells.x) c.cells-test.true c.cells.invariant in
    (z, s.end, c.requires.curve, span_time z c.args.c.now c.args.from c.args.until.now c.limit_of-limit.result s.end c.cells.elements.items c.cells.x c.requires.from c.limit_of-limit.ensures W)

pub cells-smaller : goal.cells-smaller
cells-smaller c =
    let s = c.args.s.now in
    let z = sizes_in s.first.now s.second.now s.end in
    let W = subst (λ b. SpanWalk z c.args.c.now c.args.from c.args.until.now c.limit_of-limit.result s.end c.cells.elements.items b c.cells.x) c.cells-test.true c.cells.invariant in
    let K = span_facts z c.args.c.now c.args.from c.args.until.now c.limit_of-limit.result s.end c.cells.elements.items c.cells.x c.stretch_at-here.result c.early-next.result c.requires.from c.requires.until
    c.limit_of-limit.ensures W c.requires.curve c.stretch_at-here.ensures.goes c.stretch_at-here.ensures.times (c.stretch_at-here.ensures.sizes z s.end c.requires.curve) c.early-next.ensures in
    subst (λ b. steps_while c.is_time-more.result z.dt c.limit_of-limit.result c.time_or-x.result < steps_while b z.dt c.limit_of-limit.result c.cells.x) (sym c.cells-test.true)
    (walk_fewer z s.end c.limit_of-limit.result c.cells.x c.args.until.now c.stretch_at-here.result c.early-next.result c.is_time-more.result c.time_or-x.result c.requires.curve.limited.sizes.dt W.whole K
    c.is_time-more.ensures c.time_or-x.ensures)

pub cells-preserved : goal.cells-preserved
cells-preserved c =
    let s = c.args.s.now in
    let z = sizes_in s.first.now s.second.now s.end in
    let W = subst (λ b. SpanWalk z c.args.c.now c.args.from c.args.until.now c.limit_of-limit.result s.end c.cells.elements.items b c.cells.x) c.cells-test.true c.cells.invariant in
    let K = span_facts z c.args.c.now c.args.from c.args.until.now c.limit_of-limit.result s.end c.cells.elements.items c.cells.x c.stretch_at-here.result c.early-next.result c.requires.from c.requires.until
    c.limit_of-limit.ensures W c.requires.curve c.stretch_at-here.ensures.goes c.stretch_at-here.ensures.times (c.stretch_at-here.ensures.sizes z s.end c.requires.curve) c.early-next.ensures in
    let is = c.in_ok-push_elements.ensures
    ∙ ap (λ o. (c.cells.elements.items ++ listed (point_at c.cells.x c.stretch_at-here.result.at)) ++ listed (open_at c.cells.x o c.stretch_at-here.result.line)) c.or_else-to.ensures in
    span_step z c.args.c.now c.args.from c.args.until.now c.limit_of-limit.result s.end c.cells.elements.items c.push_elements.new.elements.items c.cells.x c.stretch_at-here.result c.early-next.result
    c.is_time-more.result c.time_or-x.result c.requires.from c.limit_of-limit.ensures W c.stretch_at-here.ensures.goes c.early-next.ensures K is c.is_time-more.ensures c.time_or-x.ensures

pub returns : goal.returns
returns c =
    let s = c.args.s.now in
    let z = sizes_in s.first.now s.second.now s.end in
    let W = subst (λ b. SpanWalk z c.args.c.now c.args.from c.args.until.now c.limit_of-limit.result s.end c.cells.elements.items b c.cells.x) c.cells-test.false c.cells.invariant in
    span_end z c.args.c.now c.args.from c.args.until.now c.limit_of-limit.result s.end c.cells.elements.items c.cells.x c.limit_of-limit.ensures W
