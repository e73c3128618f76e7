use Rattle.std.proofs.Common.{ap, ◌∙◌}
use Rattle.rational.specs.declared.Extended.TheVariants.{Fin}
use Rattle.element_envelope.proofs.starts.bends_down.Goals as goal

pub returns-in-Fin : goal.returns-in-Fin
returns-in-Fin c h = record {
  first = c.in-Some.first;
  second = c.in-Some-line.second;
  before_is = c.in-Some.is;
  line_is = c.in-Some-line.is;
  left = c.in-Fin.is ∙ ap Fin (c.bend_down.ensures.left h);
  right = c.in-Fin.is ∙ ap Fin (c.bend_down.ensures.right h);
  down = c.bend_down.ensures.down h;
}
