use Rattle.std.proofs.Common.{◌≡◌, ◌<◌, ◌+◌, ◌*◌, ◌^◌}
use Rattle.fraction128.proofs.wide_sums.words.divide_word.Given as goal

-- of the bits that went before
abbrev pub invariant-loop-step : goal.invariant-loop-step
invariant-loop-step l = record {
  whole : 2 ^ l._step * (2 ^ 64 * l.before + l.word) ≡ 2 ^ 64 * (l.by * l.quotient + l.rest) + l.left;
  short : l.quotient < 2 ^ l._step;
  rest : l.rest < l.by;
}
