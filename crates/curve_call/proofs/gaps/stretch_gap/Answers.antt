use Rattle.std.proofs.Common.{subst, sym, ap₂, ◌∙◌}
use Rattle.curve_call.specs.Gaps.{InWindow, IsGap}
use Rattle.curve_call.specs.GapSteps.{gap_of, larger}
use Rattle.curve_call.proofs.GapParts.{stretch_gap_is}
use Rattle.curve_call.proofs.GapSizes.{differ_as}
use Rattle.curve_call.proofs.gaps.stretch_gap.Goals as goal

pub gap_of-start-requires : goal.gap_of-start-requires
gap_of-start-requires c = c.requires.fits.start

pub line_value-requires : goal.line_value-requires
line_value-requires c = c.requires.fits.after.first

pub line_value-requires-2 : goal.line_value-requires-2
line_value-requires-2 c = c.requires.fits.after.second

pub line_value-requires-3 : goal.line_value-requires-3
line_value-requires-3 c = c.requires.fits.before.first

pub line_value-requires-4 : goal.line_value-requires-4
line_value-requires-4 c = c.requires.fits.before.second

pub gap_of-after-requires : goal.gap_of-after-requires
gap_of-after-requires c = differ_as _ _ c.line_value.result c.line_value-2.result c.line_value.ensures c.line_value-2.ensures c.requires.fits.after.gap

pub gap_of-before-requires : goal.gap_of-before-requires
gap_of-before-requires c = differ_as _ _ c.line_value-3.result c.line_value-4.result c.line_value-3.ensures c.line_value-4.ensures c.requires.fits.before.gap

pub returns-clause-value : goal.returns-clause-value
returns-clause-value c =
    let after = c.gap_of-after.ensures ∙ ap₂ gap_of c.line_value.ensures c.line_value-2.ensures in
    let before = c.gap_of-before.ensures ∙ ap₂ gap_of c.line_value-3.ensures c.line_value-4.ensures in
    c.larger-2.ensures ∙ ap₂ larger c.gap_of-start.ensures (c.larger.ensures ∙ ap₂ larger after before)

pub returns-clause-gap : goal.returns-clause-gap
returns-clause-gap c = λ slow fast F G h k.
    subst (IsGap (InWindow c.args.t c.args.end) slow fast) (sym (returns-clause-value c)) (stretch_gap_is slow fast c.args.f.now c.args.g.now c.args.t c.args.end c.requires.some F G h k)
