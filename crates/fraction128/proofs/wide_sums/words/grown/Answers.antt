use Rattle.std.proofs.Common.{◌+◌, ◌*◌, ◌/◌, ◌%◌, ◌^◌, refl}
use Rattle.fraction128.proofs.wide_sums.Numbers.{word_grows}
use Rattle.fraction128.proofs.wide_sums.words.grown.Goals as goal

pub returns-clause-value : goal.returns-clause-value
returns-clause-value c =
    let w = c.args.word in
    let f = c.args.factor in
    word_grows w f c.args.carry c.args.more (w * (f % 2 ^ 64) + c.args.carry % 2 ^ 64 + c.args.more) (w * (f / 2 ^ 64) + c.args.carry / 2 ^ 64) refl refl
