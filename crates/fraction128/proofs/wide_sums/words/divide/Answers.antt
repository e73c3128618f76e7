use Rattle.std.proofs.Common.{◌-◌, drop, get_or, refl, arith}
use Rattle.fraction128.specs.wide_sums.Words.{number}
use Rattle.fraction128.proofs.wide_sums.Numbers.{lower, divided_more}
use Rattle.fraction128.proofs.wide_sums.words.divide.Goals as goal

pub loop-place-preserved : goal.loop-place-preserved
loop-place-preserved c =
    let ws = c.args.words.now in
    let i = c.loop-place.place in
    let d = c.divide_word-divided.result in
    let n = c.loop-place.invariant.len in
    let m = c.push.ensures.len in
    record {
      whole = divided_more c.loop-place.quotient.items c.push.new.self.items (number (drop (i - 1) ws)) (number (drop i ws)) c.args.by c.loop-place.rest (get_or ws (i - 1) 0) d.quotient d.rest
          c.push.ensures.items (lower ws i (get_or ws (i - 1) 0) c.loop-place-test.true c.loop-place.auto.place refl)
          c.loop-place.invariant.whole c.divide_word-divided.ensures.whole;
      rest = c.divide_word-divided.ensures.rest;
      len = omega (arith, n, m);
    }
