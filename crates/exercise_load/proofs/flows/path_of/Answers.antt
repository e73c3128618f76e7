use Rattle.std.proofs.Common.{◌+◌, ◌∷◌, ◌++◌, [], ap, sym, ◌∙◌}
use Rattle.exercise_load.proofs.Joined.{range_grows}
use Rattle.exercise_load.proofs.flows.path_of.Goals as goal

pub loop-hop-preserved : goal.loop-hop-preserved
loop-hop-preserved c =
    let first = c.args.flow.now.first in
    c.in_ok-push.ensures.items ∙ ap (λ ss. ss ++ (first + c.loop-hop.hop) ∷ []) c.loop-hop.invariant
    ∙ sym (range_grows first c.loop-hop.hop)
