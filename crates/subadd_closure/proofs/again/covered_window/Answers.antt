use Rattle.std.proofs.Common.{sym, subst}
use Rattle.element_envelope.proofs.EnvelopeHalves.{part_room}
use Rattle.subadd_closure.specs.Thinned.{IsCovered}
use Rattle.subadd_closure.proofs.ThinnedElements.{window_adds}
use Rattle.subadd_closure.proofs.Covering.{ok_covered, whole_room}
use Rattle.subadd_closure.proofs.again.covered_window.Goals as goal

pub covered-requires : goal.covered-requires
covered-requires c =
    whole_room c.args.w.now.end c.args.w.now.left.now c.args.w.now.right.now c.args.w.now.xs.now c.args.w.now.ys.now c.requires.elements.0
    c.requires.elements.1 c.requires.windows

pub envelope-requires : goal.envelope-requires
envelope-requires c =
    let end = c.args.w.now.end in
    let xs = c.args.w.now.xs.now in
    let ys = c.args.w.now.ys.now in
    let kept : IsCovered end xs ys c.deref.result.now =
    subst (IsCovered end xs ys) (sym c.deref.ensures.value) c.in_ok-early.ensures in
    part_room end xs ys c.deref.result.now ys kept.thin.fewer (λ e h. h)
    (whole_room end c.args.w.now.left.now c.args.w.now.right.now xs ys c.requires.elements.0 c.requires.elements.1 c.requires.windows)

pub returns-then-saturating_mul : goal.returns-then-saturating_mul
returns-then-saturating_mul c =
    let end = c.args.w.now.end in
    let xs = c.args.w.now.xs.now in
    let ys = c.args.w.now.ys.now in
    let kept : IsCovered end xs ys c.deref.result.now =
    subst (IsCovered end xs ys) (sym c.deref.ensures.value) c.in_ok-early.ensures in
    ok_covered c.envelope.result end c.args.w.now.left.now c.args.w.now.right.now xs ys c.deref.result.now c.requires.elements.0
    c.requires.elements.1 c.requires.windows
    (window_adds c.args.w.now.g.now end c.args.w.now.right.now c.requires.curves.1 c.requires.second c.requires.thin.second) kept
    c.envelope.ensures
