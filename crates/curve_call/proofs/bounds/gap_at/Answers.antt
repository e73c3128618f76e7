use Rattle.std.proofs.Common.{sym, subst, ap₂, ◌∙◌}
use Rattle.curve_call.specs.GapSteps.{gap_of, GapStands}
use Rattle.curve_call.proofs.GapSizes.{differ, gap_stands}
use Rattle.curve_call.proofs.bounds.gap_at.Goals as goal

pub stretch-left-requires : goal.stretch-left-requires
stretch-left-requires c = let w = c.requires in (w.0, w.1, w.2, w.4)

pub stretch-right-requires : goal.stretch-right-requires
stretch-right-requires c = let w = c.requires in (w.0, w.1, w.3, w.4)

pub gap_of-requires : goal.gap_of-requires
gap_of-requires c =
    let w = c.requires in
    differ w.0 w.1 c.stretch-left.result.at c.stretch-right.result.at w.2.limited (c.stretch-left.ensures.sizes w.0 w.1 w.2 w.4).1 (c.stretch-right.ensures.sizes w.0 w.1 w.3 w.4).1

pub returns-clause-gap : goal.returns-clause-gap
returns-clause-gap c = c.gap_of.ensures ∙ ap₂ gap_of c.stretch-left.ensures.goes.at c.stretch-right.ensures.goes.at

pub returns-clause-sizes : goal.returns-clause-sizes
returns-clause-sizes c = λ z end V W T.
    subst (GapStands z) (sym c.gap_of.ensures) (gap_stands z c.stretch-left.result.at c.stretch-right.result.at (c.stretch-left.ensures.sizes z end V T).1 (c.stretch-right.ensures.sizes z end W T).1)
