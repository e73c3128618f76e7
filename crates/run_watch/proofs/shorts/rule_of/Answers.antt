use Rattle.std.proofs.Common.{sym, subst, ap, ◌∙◌}
use Rattle.rational.specs.Rational.{ℚ, neg_ℚ, ◌-ℚ◌}
use Rattle.rational.specs.Ratio.{SumFits}
use Rattle.flow_watch.specs.declared.watch_laws.mark.Rule.{Rule}
use Rattle.flow_watch.specs.declared.watch_laws.point.Segment.{Segment}
use Rattle.run_watch.proofs.shorts.rule_of.Goals as goal

abbrev with_gap : Segment → ℚ → Rule
with_gap s gap = record { least = s.start; most = s.end; gap = gap }

pub product-requires : goal.product-requires
product-requires c = let G = c.requires in G.product

pub difference-requires : goal.difference-requires
difference-requires c = let G = c.requires in subst (λ (x : ℚ). SumFits c.args.s.now.value (neg_ℚ x)) (sym c.product.ensures) G.difference

pub returns : goal.returns
returns c = ap (with_gap c.args.s.now) (c.difference.ensures ∙ ap (λ x. c.args.s.now.value -ℚ x) c.product.ensures)
