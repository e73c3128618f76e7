use Rattle.std.proofs.Common.{◌∙◌, ◌++◌, [], ◌∷◌, sym, ap, refl, subst, take}
use Rattle.upp_curve.specs.affine_segment.Reading.{read}
use Rattle.subadd_closure.specs.Thinned.{IsOver, IsThinned}
use Rattle.subadd_closure.proofs.ThinnedElements.{take_push, one_kept, one_left}
use Rattle.subadd_closure.proofs.thinned.thinned.Goals as goal
use Rattle.subadd_closure.proofs.thinned.thinned.Goals.{then-not-is_over+in_ok-push, else-not-is_over}

pub loop-e-preserved : goal.loop-e-preserved
loop-e-preserved c =
    let F = read c.args.pieces.now in
    let end = c.args.end in
    let es = c.args.elements.now in
    let i = c.loop-e.e-index in
    let e = c.e-item.result in
    let more = take_push es i e c.loop-e-test.true c.e-item.is in
    subst (λ ys. IsThinned F end ys c.if-not-is_over.kept.items) (sym more)
    (elim c.if-not-is_over.branch [
      | then-not-is_over+in_ok-push w ↦
          subst (λ zs. IsThinned F end (take i es ++ e ∷ []) zs)
          (sym (ap (λ v. v.items) w.kept-is ∙ w.in_ok-push.ensures.items))
          (one_kept (IsOver F end) (take i es) c.loop-e.kept.items e c.loop-e.invariant)
      | else-not-is_over w ↦
          subst (λ zs. IsThinned F end (take i es ++ e ∷ []) zs) (sym (ap (λ v. v.items) w.kept-is))
          (one_left (IsOver F end) (take i es) c.loop-e.kept.items e c.loop-e.invariant (w.if-not-is_over.ensures refl))
    ])
