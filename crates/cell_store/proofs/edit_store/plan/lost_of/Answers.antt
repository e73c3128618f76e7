use Rattle.std.proofs.Common.{◌∙◌, ap}
use Rattle.cell_rules.specs.Finding.{gone_of}
use Rattle.cell_store.proofs.edit_store.Lost.{lost}
use Rattle.cell_store.proofs.edit_store.plan.lost_of.Goals as goal

pub returns : goal.returns
returns c =
    lost c.args.old.now c.args.net.now c.args.number c.in_ok-near.near.items c.in_ok-gone.gone.items c.keeps.ensures
    c.in_ok-near.ensures c.requires
    (c.in_ok-gone.ensures ∙ ap (gone_of c.args.net.now) c.deref.ensures.value)
