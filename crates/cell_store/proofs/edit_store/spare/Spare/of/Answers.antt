use Rattle.std.proofs.Common.{Option, sym, subst}
use Rattle.net_model.specs.Networks.{Net}
use Rattle.cell_store.specs.edit_store.Kept.{IsSameAs}
use Rattle.cell_store.proofs.edit_store.PutBack.{same_if_made}
use Rattle.cell_store.proofs.edit_store.spare.Spare.of.Goals as goal

pub returns-clause-same : goal.returns-clause-same
returns-clause-same c =
    subst (λ (o : Option Net). IsSameAs o c.args.present.now) (sym c.ok.ensures.value)
    (same_if_made c.copy.result c.args.present.now c.copy.ensures)
