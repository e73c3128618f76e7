use Rattle.std.proofs.Common.{◌∙◌}
use Rattle.upp_limits.specs.Long.{long_value}
use Rattle.upp_limits.proofs.LongCrosses.{before_is, after_is, sum_parts, end_parts}
use Rattle.upp_limits.proofs.starts.crossed.Goals as goal

pub returns : goal.returns
returns c =
    let a = c.args in
    let s = c.cross_sum.ensures ∙ sum_parts a.x a.d a.end a.n _ _ _ _ _ c.sizes-a.ensures.top c.sizes-a.ensures.bottom c.sizes-p.ensures.top c.sizes-p.ensures.bottom c.sizes-u.ensures.bottom in
    let e = c.cross_end.ensures ∙ end_parts a.x a.d a.end _ _ _ c.sizes-u.ensures.top c.sizes-a.ensures.bottom c.sizes-p.ensures.bottom in
    let there = long_value c.cross_sum.result in
    let last = long_value c.cross_end.result in
    record {
      before = before_is a.x a.d a.end a.n there last c.requires.start c.requires.step c.requires.late s e;
      after = after_is a.x a.d a.end a.n there last c.requires.start c.requires.step c.requires.late s e;
    }
