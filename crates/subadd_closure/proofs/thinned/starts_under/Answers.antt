use Rattle.upp_curve.specs.affine_segment.Values.{line_at}
use Rattle.subadd_closure.proofs.ThinnedElements.{value_most}
use Rattle.subadd_closure.proofs.thinned.starts_under.Goals as goal

pub returns-in-Ok : goal.returns-in-Ok
returns-in-Ok c h =
    let p = c.args.p.now in
    value_most p.at c.in-Fin.v c.in-Ok.top (line_at c.args.line.now p.x) c.in-Fin.is c.in-Ok.ensures.value
    (c.is_at_most.ensures h)
