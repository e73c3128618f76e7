use Rattle.std.proofs.Common.{[], ◌∷◌, ◌++◌, subst}
use Rattle.curve_call.specs.Joining.{JoinsTo}
use Rattle.curve_call.proofs.JoinedPieces.{first_of}
use Rattle.curve_call.proofs.joining.join_first.Goals as goal

pub returns : goal.returns
returns c = λ all J.
    subst (λ p. JoinsTo (all ++ p ∷ []) c.join_lower.new.kept.items)
    (first_of c.args.below c.args.b.now c.side.result.now c.side-2.result.now c.requires c.side.ensures.left c.side.ensures.right c.side-2.ensures.left c.side-2.ensures.right)
    (c.in_ok-join_lower.ensures all J)
