use Rattle.std.proofs.Common.{take}
use Rattle.fraction128.specs.wide_sums.Words.{number}
use Rattle.fraction128.specs.wide_sums.Factors.{product, IsReduced}
use Rattle.fraction128.proofs.wide_sums.lowest.reduce.Given as goal

-- over the factors so far
abbrev pub invariant-loop-factor : goal.invariant-loop-factor
invariant-loop-factor l = IsReduced (number l.fn.whole.items) (product (take l.factor-index l.factors)) (number l.top.items) l.bottom
