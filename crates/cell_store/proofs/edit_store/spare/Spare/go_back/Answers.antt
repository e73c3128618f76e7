use Rattle.std.proofs.Common.{◌≡◌, Option, Some, ◌∙◌, sym, subst}
use Rattle.net_model.specs.Networks.{Net}
use Rattle.net_model.specs.Accepted.{IsAccepted}
use Rattle.cell_rules.specs.edit_sites.Replaced.{put_back}
use Rattle.cell_store.specs.edit_store.Kept.{IsSameAs}
use Rattle.cell_store.proofs.edit_store.PutBack.{same_back}
use Rattle.cell_store.proofs.edit_store.spare.Spare.go_back.Goals.{After-take}
use Rattle.cell_store.proofs.edit_store.spare.Spare.go_back.Goals as goal

-- what was replaced last, put back, gives the present network
back : (c : After-take) (net : Net) → c.take.result ≡ Some net → put_back c.in-Some.last net ≡ c.args.present.now
back c net is = c.requires.back net c.pop.new.self.items c.in-Some.last (sym c.take.ensures.value ∙ is) c.in-Some.ensures.items

pub put_back_if_there-requires : goal.put_back_if_there-requires
put_back_if_there-requires c = λ net is.
    subst IsAccepted (sym (back (goal.at.put_back_if_there-requires c).After-take net is)) c.keeps.ensures

pub returns-clause-same : goal.returns-clause-same
returns-clause-same c =
    subst (λ (o : Option Net). IsSameAs o c.args.present.now) (sym c.put_back_if_there.ensures)
    (same_back c.take.result c.in-Some.last c.args.present.now (back (goal.at.returns-clause-same c).After-take))
