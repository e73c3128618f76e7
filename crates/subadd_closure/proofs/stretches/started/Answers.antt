use Rattle.std.proofs.Common.{ap, ◌∙◌, subst, [], ◌∷◌, ◌++◌}
use Rattle.rational.specs.Rational.{◌<ℚ◌, ◌≤ℚ◌}
use Rattle.rational.proofs.Compared.{not_less_out}
use Rattle.subadd_closure.proofs.TurnSteps.{started_late, started_early}
use Rattle.subadd_closure.proofs.stretches.started.Goals as goal
use Rattle.subadd_closure.proofs.stretches.started.Goals.{then-is_less+in_ok-push, else-is_less}

pub returns : goal.returns
returns c = elim c.if-is_less.branch [
  | then-is_less+in_ok-push w ↦ started_late c.args.a w.zero-then-is_less.result c.new-pieces.result.items c.if-is_less.pieces.items c.push-2.new.self.items c.args.first
      (subst (λ z. z <ℚ c.args.a) c.zero.ensures (c.is_less.ensures.less.0 w.if-is_less.true)) w.zero-then-is_less.ensures c.new-pieces.ensures.items
      (ap (λ v. v.items) w.pieces-is ∙ w.in_ok-push.ensures.items) c.in_ok-push-2.ensures.items
  | else-is_less w ↦ started_early c.args.a c.new-pieces.result.items c.push-2.new.self.items c.args.first
      (subst (λ z. c.args.a ≤ℚ z) c.zero.ensures (not_less_out c.is_less.result c.zero.result c.args.a c.is_less.ensures.less w.if-is_less.false)) c.new-pieces.ensures.items
      (c.in_ok-push-2.ensures.items ∙ ap (λ v. v.items ++ (c.args.first ∷ [])) w.pieces-is)
]
