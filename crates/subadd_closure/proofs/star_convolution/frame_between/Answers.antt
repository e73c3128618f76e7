use Rattle.std.proofs.lemmas.Result.{err_from_is_err_and}
use Rattle.curve_conv.proofs.ConvolveCalls.{parts_call, refused_by}
use Rattle.subadd_closure.proofs.FirstFrames.{between_frame}
use Rattle.subadd_closure.proofs.star_convolution.frame_between.Goals as goal

pub quick_bounds-requires-clause-parts : goal.quick_bounds-requires-clause-parts
quick_bounds-requires-clause-parts c = parts_call c.args.f.now c.args.g.now c.args.first.now c.args.from c.requires.curves c.requires.window c.requires.from

pub returns-in_err-refuse_between-clause-refused : goal.returns-in_err-refuse_between-clause-refused
returns-in_err-refuse_between-clause-refused c =
    let p = err_from_is_err_and c.from_residual.result c.from_residual.ensures.1 in
    let B = c.in-Some.ensures in
    rw (p.1, p.2)
    (refused_by c.args.f.now c.args.g.now c.args.first.now c.args.from B.number _ c.requires.curves c.requires.window c.requires.from B.is (c.in_err-refuse_between.ensures B.number B.low B.high))

pub returns-clause-frame : goal.returns-clause-frame
returns-clause-frame c =
    between_frame c.args.f.now c.args.g.now c.args.first.now c.args.from c.in-Some.bounds c.small_frame.result c.requires.curves c.requires.window c.requires.from
    c.in-Some.ensures c.small_frame.ensures
