use Rattle.std.proofs.Common.{◌≡◌, ◌+◌, ◌*◌, ◌^◌, length, drop, sym, ◌∙◌, subst, arith}
use Rattle.fraction128.specs.wide_sums.Words.{number}
use Rattle.fraction128.proofs.wide_sums.Numbers.{times_step}
use Rattle.fraction128.proofs.wide_sums.words.times_plus.Goals as goal

pub loop-place-preserved : goal.loop-place-preserved
loop-place-preserved c =
    let ws = c.args.words.now in
    let ms = c.args.more.now in
    let i = c.loop-place.place in
    let f = c.args.factor in
    let n = c.loop-place.invariant.len in
    let m = c.push.ensures.len in
    record {
      sum = subst (λ all. number all + (2 ^ 64) ^ length all * (c.grown-split.result.above + number (drop (i + 1) ws) * f + number (drop (i + 1) ms)) ≡ number ws * f + number ms) (sym c.push.ensures.items)
          (times_step c.loop-place.all.items ws ms i f c.loop-place.carry c.word_at.result c.word_at-in-loop-place.result c.grown-split.result.word c.grown-split.result.above
          record { own = c.word_at.ensures; other = c.word_at-in-loop-place.ensures; value = c.grown-split.ensures.value } ∙ c.loop-place.invariant.sum);
      carry = c.grown-split.ensures.most;
      len = omega (arith, n, m);
    }
