use Rattle.cell_rules.proofs.Tells.{tells_curves}
use Rattle.cell_rules.proofs.reads.same_curve.Goals as goal

pub returns : goal.returns
returns c =
    tells_curves c.args.f.now c.args.g.now c.equal.result c.normal_form_is_unique.ensures c.keeps.ensures.normal
    c.keeps-2.ensures.normal c.equal.ensures
