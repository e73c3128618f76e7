use Rattle.std.proofs.Common.{sym, subst}
use Rattle.rational.specs.Extended.{◌≤ₑ◌}
use Rattle.rational.specs.declared.Extended.TheVariants.{Fin, Inf}
use Rattle.rational.proofs.Laws.{le_refl}
use Rattle.min_plus.specs.Functions.{zero_q}
use Rattle.upp_curve.specs.Curve.{value_at}
use Rattle.upp_curve.specs.affine_segment.Reading.{read}
use Rattle.element_envelope.specs.PieceElements.{elements_of}
use Rattle.subadd_closure.specs.Thinned.{IsThinned}
use Rattle.subadd_closure.specs.Useful.{AreUseful}
use Rattle.subadd_closure.proofs.ThinnedElements.{same_thinned, window_reads}
use Rattle.subadd_closure.proofs.UsefulWindows.{beside_room, ok_useful}
use Rattle.subadd_closure.proofs.again.late_window.Goals as goal

pub lower_envelope-requires : goal.lower_envelope-requires
lower_envelope-requires c =
    let end = c.args.w.now.end in
    let xs = c.args.w.now.xs.now in
    let late = c.args.w.now.late.now in
    let left = c.args.w.now.left.now in
    let kept : AreUseful (read left) end xs late c.deref.result.now =
    subst (AreUseful (read left) end xs late) (sym c.deref.ensures.value) c.in_ok-kept.ensures in
    beside_room end left c.args.w.now.right.now xs c.args.w.now.ys.now late c.deref.result.now c.requires.elements.0 c.requires.elements.1
    c.requires.windows c.requires.late.fewer kept

pub returns : goal.returns
returns c =
    let f = c.args.w.now.f.now in
    let end = c.args.w.now.end in
    let xs = c.args.w.now.xs.now in
    let late = c.args.w.now.late.now in
    let left = c.args.w.now.left.now in
    let right = c.args.w.now.right.now in
    let reads = window_reads f end left c.requires.curves.0 c.requires.first in
    let low = subst (λ z. z ≤ₑ Fin zero_q)
    (sym (window_reads c.args.w.now.g.now end right c.requires.curves.1 c.requires.second zero_q (le_refl zero_q)
    c.requires.windows.some)) c.requires.thin.zero in
    let thin : IsThinned (value_at f) end (elements_of right Inf) late =
    same_thinned (read left) (value_at f) end (elements_of right Inf) late reads
    (subst (λ ys. IsThinned (read left) end ys late) c.requires.elements.1 c.requires.late) in
    let kept : AreUseful (read left) end xs late c.deref.result.now =
    subst (AreUseful (read left) end xs late) (sym c.deref.ensures.value) c.in_ok-kept.ensures in
    ok_useful c.lower_envelope.result (value_at f) end left right xs late c.deref.result.now c.requires.elements.0
    c.requires.windows reads c.requires.thin.subadditive low thin kept c.lower_envelope.ensures
