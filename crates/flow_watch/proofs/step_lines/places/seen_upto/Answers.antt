use Rattle.std.proofs.Common.{List, length, ap, ◌∙◌, subst, sym}
use Rattle.rational.specs.Rational.{◌+ℚ◌}
use Rattle.flow_watch.specs.declared.step_lines.places.Placed.{Placed}
use Rattle.flow_watch.specs.step_lines.Places.{ArePlaced}
use Rattle.flow_watch.proofs.step_lines.PlacedPairs.{line_kept}
use Rattle.flow_watch.proofs.step_lines.places.seen_upto.Goals as goal

pub returns : goal.returns
returns c =
    let es = c.args.entries.now in
    let ps = c.as_slice-laid.result.now in
    line_kept c.args.height c.args.spare c.args.slack c.in-Ok-add.wide c.args.rate es ps c.within_upto-count.result c.requires.high (c.in-Ok-add.ensures.value ∙ ap (λ x. c.args.slack +ℚ x) c.one.ensures)
    (subst (λ (qs : List Placed). ArePlaced c.args.height c.args.spare c.args.rate es qs (length es)) (sym c.as_slice-laid.ensures.value) c.in-Some.ensures) c.within_upto-count.ensures.in_range c.within_upto-count.ensures.keep
