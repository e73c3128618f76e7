use Rattle.std.proofs.Common.{◌∙◌, ◌++◌, [], ◌∷◌, sym, ap, refl, subst, take}
use Rattle.upp_curve.specs.affine_segment.Reading.{read}
use Rattle.subadd_closure.specs.Useful.{AreUseful, IsIdle}
use Rattle.subadd_closure.proofs.ThinnedElements.{take_push, one_kept, one_left}
use Rattle.subadd_closure.proofs.useful.useful.Goals as goal
use Rattle.subadd_closure.proofs.useful.useful.Goals.{then-not-is_idle+in_ok-push, else-not-is_idle}

pub loop-x-preserved : goal.loop-x-preserved
loop-x-preserved c =
    let F = read c.args.pieces.now in
    let end = c.args.end in
    let ys = c.args.ys.now in
    let xs = c.args.xs.now in
    let i = c.loop-x.x-index in
    let x = c.x-item.result in
    let more = take_push xs i x c.loop-x-test.true c.x-item.is in
    subst (λ us. AreUseful F end us ys c.if-not-is_idle.kept.items) (sym more)
    (elim c.if-not-is_idle.branch [
      | then-not-is_idle+in_ok-push w ↦
          subst (λ zs. AreUseful F end (take i xs ++ x ∷ []) ys zs)
          (sym (ap (λ v. v.items) w.kept-is ∙ w.in_ok-push.ensures.items))
          (one_kept (IsIdle F end ys) (take i xs) c.loop-x.kept.items x c.loop-x.invariant)
      | else-not-is_idle w ↦
          subst (λ zs. AreUseful F end (take i xs ++ x ∷ []) ys zs) (sym (ap (λ v. v.items) w.kept-is))
          (one_left (IsIdle F end ys) (take i xs) c.loop-x.kept.items x c.loop-x.invariant (w.if-not-is_idle.ensures refl))
    ])
