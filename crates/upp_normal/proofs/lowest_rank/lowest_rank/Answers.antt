use Rattle.std.proofs.Common.{arith, ◌≡◌, length, ap, sym, subst, pos}
use Rattle.std.proofs.lemmas.List.{length-append}
use Rattle.rational.specs.Rational.{int}
use Rattle.upp_curve.specs.affine_segment.Reading.{read}
use Rattle.upp_curve.specs.Curve.{repeated}
use Rattle.upp_curve.specs.Unrolled.{upto, from}
use Rattle.upp_curve.specs.Kinds.{piece}
use Rattle.upp_normal.specs.Normalising.{IsLowest, Lowers}
use Rattle.upp_normal.proofs.NormaliseCuts.{split_is}
use Rattle.upp_normal.proofs.NormaliseRank.{lowers_begins, lowers_more, lowers_to_zero, lowers_no_more, lowest_is, step_fits}
use Rattle.upp_normal.proofs.lowest_rank.lowest_rank.Goals as goal
use Rattle.upp_normal.proofs.lowest_rank.lowest_rank.Goals.{else-loop-first-test, then-loop-first-test+in_default}

pub loop-first-init : goal.loop-first-init
loop-first-init c = let a = c.args.cycle in lowers_begins a.pieces.items a.first a.rank a.period a.rise c.requires.cycle c.requires.first

pub lowered-requires-clause-inside : goal.lowered-requires-clause-inside
lowered-requires-clause-inside c =
    let ps = c.loop-first.pieces.items in
    let r = c.loop-first.rank in
    omega (arith, c.loop-first.invariant.first_is, length-append (upto r ps) (from r ps), ap length (split_is r ps))

pub loop-first-preserved : goal.loop-first-preserved
loop-first-preserved c =
    let a = c.args.cycle in
    let l = c.loop-first in
    let z = piece (int (pos 0)) (int (pos 0)) (int (pos 0)) (int (pos 0)) in
    let step = subst (λ o. Lowers l.pieces.items c.lowered.new.pieces.items l.first a.period a.rise z o) c.in-Some.is (c.lowered.ensures z) in
    lowers_more a.pieces.items l.pieces.items c.lowered.new.pieces.items l.first l.rank a.period a.rise a.rank c.in-Some.start (repeated (read a.pieces.items) a.rank a.period a.rise) z l.invariant c.loop-first-test.true step

pub returns-clause-lowest : goal.returns-clause-lowest
returns-clause-lowest c =
    let a = c.args.cycle in
    let l = c.loop-first in
    let f = repeated (read a.pieces.items) a.rank a.period a.rise in
    let z = piece (int (pos 0)) (int (pos 0)) (int (pos 0)) (int (pos 0)) in
    elim c.loop-first-test.branch [
      | else-loop-first-test w ↦
          let none : l.first ≡ 0 = omega arith in
          subst (λ zs. IsLowest a.pieces.items zs l.rank a.period a.rise a.rank f) (sym (ap (λ v. v.items) w.pieces-is))
          (lowest_is a.pieces.items l.pieces.items l.first l.rank a.period a.rise a.rank f l.invariant (lowers_to_zero a.pieces.items l.pieces.items l.first l.rank a.period a.rise a.rank f l.invariant none))
      | then-loop-first-test+in_default w ↦
          let step = subst (λ o. Lowers l.pieces.items w.lowered.new.pieces.items l.first a.period a.rise z o) w.in_default.is (w.lowered.ensures z) in
          subst (λ zs. IsLowest a.pieces.items zs l.rank a.period a.rise a.rank f) (sym (ap (λ v. v.items) w.pieces-is))
          (lowers_no_more a.pieces.items l.pieces.items l.first l.rank a.period a.rise a.rank f z l.invariant w.loop-first-test.true w.lowered.new.pieces.items step)
    ]

pub lowered-requires-clause-fits : goal.lowered-requires-clause-fits
lowered-requires-clause-fits c = λ z.
    let a = c.args.cycle in
    let l = c.loop-first in
    step_fits a.pieces.items l.pieces.items l.first l.rank a.period a.rise a.rank (repeated (read a.pieces.items) a.rank a.period a.rise) z l.invariant c.loop-first-test.true c.requires.fits
