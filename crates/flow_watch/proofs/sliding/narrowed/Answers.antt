use Rattle.std.proofs.Common.{◌≡◌, ◌+◌, ◌-◌, sym, true≢false, arith}
use Rattle.rational.proofs.Laws.{le_of_not_lt}
use Rattle.flow_watch.proofs.Slides.{bits_left, narrow_more}
use Rattle.flow_watch.proofs.sliding.narrowed.Goals as goal

pub overflow_sub-bits : goal.overflow_sub-bits
overflow_sub-bits c =
    let N = c.loop-first.invariant.1 in
    let left = bits_left c.args.entries.now c.loop-first.first c.args.last c.loop-first.bits c.index-entries-first.result c.loop-first-test.true c.requires.in_range c.index-entries-first.is N.all in
    omega (arith, left)

pub loop-first-preserved : goal.loop-first-preserved
loop-first-preserved c =
    let es = c.args.entries.now in
    let first = c.loop-first.first in
    let bits = c.loop-first.bits in
    let e = c.index-entries-first.result in
    let l = c.index-entries-last.result in
    let N = c.loop-first.invariant.1 in
    let less = c.loop-first.invariant.0 in
    let left = bits_left es first c.args.last bits e c.loop-first-test.true c.requires.in_range c.index-entries-first.is N.all in
    let rest : bits - e.bits + e.bits ≡ bits = omega (arith, left) in (
      omega (arith, less),
      narrow_more c.args.end es first c.args.last bits (bits - e.bits) e l c.in-Ok.gap c.loop-first-test.true c.requires.in_range c.index-entries-first.is c.in-Ok.ensures.value
          (le_of_not_lt (λ h. true≢false (sym (c.if-is_less.ensures.less.1 h)))) rest N,
    )
