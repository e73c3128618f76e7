use Rattle.std.specs.Prelude.{◌+◌}
use Rattle.plain_operators.proofs.pointwise.LatticeCalls.{left_rise, right_rise}
use Rattle.subadd_closure.proofs.again.slower_rise.Goals as goal

pub rise_over-requires : goal.rise_over-requires
rise_over-requires c =
    let r = c.args.frame.now in
    let F = c.requires in
    (right_rise c.args.f.now c.args.g.now r.start r.period r.end (F.number + 1) F.sizes F.call).fits

pub rise_over-requires-2 : goal.rise_over-requires-2
rise_over-requires-2 c =
    let r = c.args.frame.now in
    let F = c.requires in
    (left_rise c.args.f.now c.args.g.now r.start r.period r.end (F.number + 1) F.sizes F.call).fits
