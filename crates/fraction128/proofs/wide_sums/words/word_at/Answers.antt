use Rattle.std.proofs.Common.{get_or, refl}
use Rattle.fraction128.proofs.wide_sums.Numbers.{number_at, word_past}
use Rattle.fraction128.proofs.wide_sums.words.word_at.Goals as goal

pub returns-then-place-words : goal.returns-then-place-words
returns-then-place-words c = number_at c.args.words.now c.args.place (get_or c.args.words.now c.args.place 0) c.if-place-words.true refl

pub returns-else-place-words : goal.returns-else-place-words
returns-else-place-words c = word_past c.args.words.now c.args.place c.if-place-words.false
