use Rattle.std.proofs.Common.{◌∙◌, ap}
use Rattle.arrival_stairs.specs.BelowLines.{stair_burst, stair_rate}
use Rattle.tree_bounds.specs.Lines.{line_within}
use Rattle.tree_bounds.proofs.LineLimits.{none_within}
use Rattle.tree_bounds.proofs.onward.line_above.Goals as goal

pub returns-in-None : goal.returns-in-None
returns-in-None c = none_within (stair_burst c.args.stair) (stair_rate c.args.stair) c.in-None.ensures.least

pub returns-in-Some : goal.returns-in-Some
returns-in-Some c =
    let line = c.in-Some.line in
    let is = c.in-Some.ensures.least in
    c.low.ensures ∙ ap (λ b. line_within b line.rate) is.1 ∙ ap (λ r. line_within (stair_burst c.args.stair) r) is.0
