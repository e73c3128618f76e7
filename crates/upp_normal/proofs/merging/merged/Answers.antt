use Rattle.std.proofs.Common.{arith, ◌+◌, ◌<◌, length, set, refl}
use Rattle.upp_normal.proofs.NormaliseMerge.{joins_begin, joins_fits, joins_keep, joins_skip, joins_end}
use Rattle.upp_normal.proofs.merging.merged.Goals as goal
use Rattle.upp_normal.proofs.merging.merged.Goals.{then-not-continues, else-not-continues}

pub loop-next-init : goal.loop-next-init
loop-next-init c = joins_begin c.args.pieces.items c.requires.starts c.requires.fits

pub continues-requires : goal.continues-requires
continues-requires c =
    let l = c.loop-next in
    let within : l.next < length l.kept.items = omega (arith, l.invariant.long, c.loop-next-test.true) in
    joins_fits c.args.pieces.items l.kept.items l.last l.next c.index.result.now within c.index.ensures l.invariant

pub loop-next-preserved : goal.loop-next-preserved
loop-next-preserved c =
    let l = c.loop-next in
    let all = c.args.pieces.items in
    let q = c.index.result.now in
    let within : l.next < length l.kept.items = omega (arith, l.invariant.long, c.loop-next-test.true) in
    elim c.if-not-continues.branch [
      | then-not-continues w ↦ rw (w.kept-is, w.last-is)
          (joins_keep all l.kept.items (set l.kept.items (l.last + 1) q) l.last l.next c.index-in-loop-next.result.now q c.continues.result c.index-in-loop-next.ensures within c.index.ensures
          w.if-not-continues.true c.continues.ensures.1 refl l.invariant)
      | else-not-continues w ↦ rw (w.kept-is, w.last-is)
          (joins_skip all l.kept.items l.last l.next c.index-in-loop-next.result.now q c.continues.result c.index-in-loop-next.ensures within c.index.ensures w.if-not-continues.false c.continues.ensures.0 l.invariant)
    ]

pub returns : goal.returns
returns c = λ p ps e.
    let l = c.loop-next in
    joins_end c.args.pieces.items l.kept.items c.truncate.new.self.items l.last l.next p ps (omega (arith, c.loop-next-test.false)) c.truncate.ensures.items e l.invariant
