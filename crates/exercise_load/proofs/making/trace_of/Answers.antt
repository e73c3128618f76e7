use Rattle.std.proofs.Common.{sym, ◌∙◌, subst}
use Rattle.net_model.specs.Traces.{IsTrace}
use Rattle.exercise_load.specs.Bounds.{AreDrawn}
use Rattle.exercise_load.proofs.DrawnAre.{all_drawn}
use Rattle.exercise_load.proofs.Sent.{keeps, made_trace}
use Rattle.exercise_load.proofs.making.trace_of.Goals as goal

pub packets-requires : goal.packets-requires
packets-requires c = subst AreDrawn (sym c.requires) (all_drawn c.args.seed)

pub new-requires : goal.new-requires
new-requires c =
    subst IsTrace (sym (made_trace c.args.seed _ _ _ c.in_ok-sent.ensures c.new-stalls.ensures.items c.requires))
    (keeps c.args.seed)

pub returns : goal.returns
returns c =
    c.new.ensures ∙ made_trace c.args.seed _ _ _ c.in_ok-sent.ensures c.new-stalls.ensures.items c.requires
