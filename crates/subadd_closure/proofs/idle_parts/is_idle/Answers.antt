use Rattle.std.proofs.Common.{sym, subst}
use Rattle.subadd_closure.specs.Folds.{SegmentWithin, segment_number}
use Rattle.subadd_closure.specs.IdleParts.{ClosureLeaves}
use Rattle.subadd_closure.proofs.ZeroStars.{part_leaves}
use Rattle.subadd_closure.proofs.idle_parts.is_idle.Goals as goal

pub returns-in-Open : goal.returns-in-Open
returns-in-Open c told =
    let f = c.args.f.now in
    let e = c.args.e.now in
    let h = c.is_idle_segment.ensures told in
    part_leaves f c.args.sofar.now e c.requires.alone (subst (λ z. SegmentWithin f (segment_number z)) (sym c.in-Open.is) h.within)
    c.requires.zero (subst ClosureLeaves (sym c.in-Open.is) h.leaves)
