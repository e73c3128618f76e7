use Rattle.std.proofs.Common.{ap, ◌∙◌, [], ◌∷◌, ◌++◌}
use Rattle.rational.proofs.Compared.{not_less_out}
use Rattle.subadd_closure.proofs.TurnSteps.{pushed_after, pushed_alone}
use Rattle.subadd_closure.proofs.stretches.add_stretch.Goals as goal
use Rattle.subadd_closure.proofs.stretches.add_stretch.Goals.{then-is_less+in_ok-push, else-is_less}

pub returns : goal.returns
returns c = elim c.if-is_less.branch [
  | then-is_less+in_ok-push w ↦ pushed_after c.args.pieces.now.items c.if-is_less.pieces.items c.push-2.new.self.items c.args.x c.args.next
      (c.is_less.ensures.less.0 w.if-is_less.true) (ap (λ v. v.items) w.pieces-is ∙ w.in_ok-push.ensures.items) c.in_ok-push-2.ensures.items
  | else-is_less w ↦ pushed_alone c.args.pieces.now.items c.push-2.new.self.items c.args.x c.args.next
      (not_less_out c.is_less.result c.args.x c.args.next.x c.is_less.ensures.less w.if-is_less.false)
      (c.in_ok-push-2.ensures.items ∙ ap (λ v. v.items ++ (c.args.next ∷ [])) w.pieces-is)
]
