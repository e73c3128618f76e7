use Rattle.std.proofs.Common.{Option, sym, ap, ◌∙◌, subst}
use Rattle.net_model.specs.Networks.{Net}
use Rattle.net_model.specs.Accepted.{IsAccepted}
use Rattle.net_edits.specs.Changed.{changed}
use Rattle.cell_store.specs.edit_store.Kept.{IsSameAs}
use Rattle.cell_store.proofs.edit_store.plan.made.Goals as goal

pub changed-requires : goal.changed-requires
changed-requires c =
    subst (λ (n : Net). IsAccepted (changed c.args.change n)) (sym c.in_ok-whole.ensures.same) c.requires.accepted

pub returns-clause-net : goal.returns-clause-net
returns-clause-net c = c.in_ok-net.ensures.changed ∙ ap (changed c.args.change) c.in_ok-whole.ensures.same

pub returns-clause-change : goal.returns-clause-change
returns-clause-change c = c.in_ok-again.ensures c.args.present.now

pub returns-clause-same : goal.returns-clause-same
returns-clause-same c = subst (λ (o : Option Net). IsSameAs o c.args.present.now) (sym c.take.ensures.taken) tt
