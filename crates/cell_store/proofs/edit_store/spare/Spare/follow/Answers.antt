use Rattle.std.proofs.Common.{Option, sym, subst}
use Rattle.std.specs.Prelude.{IsSome}
use Rattle.net_model.specs.Networks.{Net}
use Rattle.net_edits.specs.Changed.{changed, IsMore}
use Rattle.cell_store.specs.edit_store.Kept.{IsSameAs}
use Rattle.cell_store.proofs.edit_store.PutBack.{same_if_made, there_if_made}
use Rattle.cell_store.proofs.edit_store.spare.Spare.follow.Goals as goal

pub returns-clause-same : goal.returns-clause-same
returns-clause-same c =
    let after = changed c.args.change c.args.before in
    subst (λ (o : Option Net). IsSameAs o after) (sym c.ok.ensures.value) (same_if_made c.changed.result after c.changed.ensures.changed)

pub returns-clause-there : goal.returns-clause-there
returns-clause-there c = λ fixed.
    subst (λ (o : Option Net). IsSome o) (sym c.ok.ensures.value)
    (there_if_made c.changed.result (IsMore c.args.change) c.changed.ensures.refused fixed)
