use Rattle.std.proofs.Common.{arith, ◌≡◌, ◌∙◌, ◌+◌, ◌++◌, suc, ap, subst, sym, pos}
use Rattle.rational.specs.Rational.{◌-ℚ◌, ◌+ℚ◌, ◌<ℚ◌, int}
use Rattle.upp_curve.specs.Unrolled.{copies, from, upto}
use Rattle.upp_normal.specs.Unrolling.{TurnFits}
use Rattle.upp_normal.proofs.NormaliseRank.{from_late}
use Rattle.upp_normal.proofs.UnrollLoops.{counted_copies, counted_in, counted_out, no_copies_yet, one_turn_more, turn_kept}
use Rattle.upp_normal.proofs.unrolling.with_copies.Goals as goal
use Rattle.upp_curve.proofs.affine_segment.PieceIn.{low_start}
use Rattle.upp_limits.proofs.PieceCounts.{each_from, upto_early}

pub loop-n-init : goal.loop-n-init
loop-n-init c =
    let a = c.args in
    no_copies_yet a.end a.rank a.period a.rise c.in_ok-kept.kept.items (upto a.rank a.pieces.now) (from a.rank a.pieces.now)
    (c.in_ok-kept.ensures.items ∙ c.before-3.ensures ∙ ap (upto a.end) c.before-2.ensures)

pub push_copies-requires : goal.push_copies-requires
push_copies-requires c =
    let a = c.args in
    let n = c.loop-n.n in
    subst (TurnFits n a.period a.rise a.end) (sym c.from_start-turn.ensures)
    (c.requires.fits n (counted_in a.rank a.period a.end n c.count_before-copies.result c.requires.tail.some c.count_before-copies.ensures c.loop-n-test.true))

pub loop-n-preserved : goal.loop-n-preserved
loop-n-preserved c =
    let a = c.args in
    let n = c.loop-n.n in
    let ps = a.pieces.now in
    let next : suc n ≡ n + 1 = omega arith in
    let inside = counted_in a.rank a.period a.end n c.count_before-copies.result c.requires.tail.some c.count_before-copies.ensures c.loop-n-test.true in
    subst (λ k. c.push_copies.new.kept.items ≡ upto a.end (upto a.rank ps ++ copies k a.period a.rise (from a.rank ps))) next
    (one_turn_more n a.end a.rank a.period a.rise c.loop-n.kept.items c.push_copies.new.kept.items (upto a.rank ps) (from a.rank ps) c.requires.tail.some inside
    (upto_early a.rank ps) (each_from (λ p. p.x <ℚ a.rank +ℚ a.period) a.rank ps c.requires.tail.starts) c.loop-n.invariant
    (turn_kept n a.end a.period a.rise c.loop-n.kept.items c.push_copies.new.kept.items c.from_start-turn.result.now (from a.rank ps) c.from_start-turn.ensures c.in_ok-push_copies.ensures))

pub returns : goal.returns
returns c =
    let a = c.args in
    let ps = a.pieces.now in
    let n = c.loop-n.n in
    let all : n ≡ c.count_before-copies.result = omega arith in
    let late = from_late a.rank (int (pos 0) -ℚ int (pos 1)) ps (low_start ps c.requires.starts) in
    c.loop-n.invariant ∙ counted_copies n (upto a.rank ps) (from a.rank ps) a.rank a.period a.rise a.end c.requires.tail.some late
    (counted_out a.rank a.period a.end n c.requires.tail.some (all ∙ c.count_before-copies.ensures) (λ k inside. (c.requires.fits k inside).number))
