use Rattle.std.proofs.Common.{arith, ◌≡◌, ◌+◌, suc, subst}
use Rattle.subadd_closure.proofs.TurnSteps.{IsGrowing, none_grown, grown, grows, next_fits}
use Rattle.subadd_closure.proofs.stretches.add_stretches.Goals as goal

pub loop-i-init : goal.loop-i-init
loop-i-init c = none_grown c.args.a c.args.b c.args.line.now c.args.m c.args.pieces.now.items

pub returns-in_default-clause-unfit : goal.returns-in_default-clause-unfit
returns-in_default-clause-unfit c = λ h.
    let i = c.loop-i.i in
    let r = next_fits c.args.a c.args.b c.args.line.now c.args.m i (i + 1) (i + 2) c.loop-i.pieces.items c.args.pieces.now.items (omega arith) (omega arith) (omega arith)
    (c.requires.apart (suc i) (omega arith) (omega arith)) c.loop-i.invariant h in
    let k = c.in_default.ensures.fits r.0 in
    cc

pub returns-in_default-stretch-clause-unfit : goal.returns-in_default-stretch-clause-unfit
returns-in_default-stretch-clause-unfit c = λ h.
    let i = c.loop-i.i in
    let r = next_fits c.args.a c.args.b c.args.line.now c.args.m i (i + 1) (i + 2) c.loop-i.pieces.items c.args.pieces.now.items (omega arith) (omega arith) (omega arith)
    (c.requires.apart (suc i) (omega arith) (omega arith)) c.loop-i.invariant h in
    let k = c.in_default-stretch.ensures.fits r.1 in
    cc

pub loop-i-preserved : goal.loop-i-preserved
loop-i-preserved c =
    let i = c.loop-i.i in
    let next : suc i ≡ i + 1 = omega arith in
    subst (λ z. IsGrowing c.args.a c.args.b c.args.line.now c.args.m z c.add_stretch.new.pieces.items c.args.pieces.now.items) next
    (grows c.args.a c.args.b c.args.line.now c.args.m i (i + 1) (i + 2) c.loop-i.pieces.items c.add_stretch.new.pieces.items c.args.pieces.now.items
    c.in-Some.x c.in-Some-stretch.next (omega arith) (omega arith) (omega arith) c.in-Some.ensures.value c.in-Some-stretch.ensures.value
    (c.requires.apart (suc i) (omega arith) (omega arith)) c.in_ok-add_stretch.ensures c.loop-i.invariant)

pub returns-clause-made : goal.returns-clause-made
returns-clause-made c =
    grown c.args.a c.args.b c.args.line.now c.args.m c.loop-i.i c.loop-i.pieces.items c.args.pieces.now.items (omega arith) c.loop-i.invariant
