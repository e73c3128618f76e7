use Rattle.std.proofs.Common.{sym, ◌∙◌, subst}
use Rattle.net_model.specs.Accepted.{IsAccepted}
use Rattle.exercise_load.specs.Bounds.{AreDrawn}
use Rattle.exercise_load.proofs.DrawnAre.{all_drawn}
use Rattle.exercise_load.proofs.Stand.{accepted, made_network}
use Rattle.exercise_load.proofs.making.network_of.Goals as goal

pub flows-requires : goal.flows-requires
flows-requires c = subst AreDrawn (sym c.requires) (all_drawn c.args.seed)

pub new-requires : goal.new-requires
new-requires c =
    subst IsAccepted
    (sym (made_network c.args.seed _ _ _ c.in_ok-servers.ensures c.in_ok-flows.ensures c.requires)) (accepted c.args.seed)

pub returns : goal.returns
returns c =
    c.new.ensures ∙ made_network c.args.seed _ _ _ c.in_ok-servers.ensures c.in_ok-flows.ensures c.requires
