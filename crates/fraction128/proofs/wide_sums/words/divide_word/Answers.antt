use Rattle.std.proofs.Common.{◌≡◌, ◌+◌, ◌*◌, ◌%◌, ◌^◌, sym, subst, arith}
use Rattle.fraction128.proofs.wide_sums.Numbers.{bit_goes, bit_stays, bits_done, short_more}
use Rattle.fraction128.proofs.wide_sums.words.divide_word.Goals.{then-rest-by, else-rest-by}
use Rattle.fraction128.proofs.wide_sums.words.divide_word.Goals as goal

pub returns-clause-whole : goal.returns-clause-whole
returns-clause-whole c =
    let x = 2 ^ 64 * c.args.before + c.args.word in
    let all : c.loop-step._step ≡ 64 = omega arith in
    bits_done c.loop-step._step c.args.by c.loop-step.quotient c.loop-step.rest c.loop-step.left x all (omega arith) c.loop-step.invariant.whole

pub loop-step-preserved : goal.loop-step-preserved
loop-step-preserved c =
    let k = c.loop-step._step in
    let by = c.args.by in
    let x = 2 ^ 64 * c.args.before + c.args.word in
    let q = c.loop-step.quotient in
    let rest = c.loop-step.rest in
    let left = c.loop-step.left in
    let r = c.if-rest-by.rest in
    let before = c.loop-step.invariant.whole in
    let short = c.loop-step.invariant.short in
    let less = c.loop-step.invariant.rest in
    elim c.if-rest-by.branch [
      | then-rest-by w ↦
          let one = w.quotient-is in
          let is = w.rest-is in
          let goes = w.if-rest-by.true in
          record {
            whole = subst (λ n. 2 ^ (k + 1) * x ≡ 2 ^ 64 * (by * n + r) + 2 * (left % 2 ^ 63)) (sym one) (bit_goes k by q rest left x r before goes is);
            short = short_more k q c.if-rest-by.quotient short (omega (arith, one));
            rest = omega (arith, is, less, goes);
          }
      | else-rest-by w ↦
          let none = w.quotient-is in
          let is = w.rest-is in
          let stays = w.if-rest-by.false in
          record {
            whole = subst (λ n. 2 ^ (k + 1) * x ≡ 2 ^ 64 * (by * n + r) + 2 * (left % 2 ^ 63)) (sym none) (bit_stays k by q rest left x r before is);
            short = short_more k q c.if-rest-by.quotient short (omega (arith, none));
            rest = omega (arith, is, stays);
          }
    ]
