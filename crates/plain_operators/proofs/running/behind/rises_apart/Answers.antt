use Rattle.std.proofs.Common.{ap₂, ◌∙◌}
use Rattle.rational.specs.Rational.{ℚ, ◌-ℚ◌}
use Rattle.plain_operators.proofs.running.behind.rises_apart.Goals as goal

pub difference-requires : goal.difference-requires
difference-requires c = rw (c.rise_over.ensures, c.rise_over-2.ensures) c.requires.apart

pub returns : goal.returns
returns c = c.difference.ensures ∙ ap₂ (λ (x y : ℚ). x -ℚ y) c.rise_over.ensures c.rise_over-2.ensures
