use Rattle.element_envelope.proofs.CopyWindows.{first_operand, second_operand, swapped, some_turned}
use Rattle.element_envelope.proofs.convolved.window_convolution_from.Goals as goal

pub by_line-requires-2 : goal.by_line-requires-2
by_line-requires-2 c = swapped c.args.from c.args.end c.args.f.now c.args.g.now c.requires

pub returns-in-Some-2 : goal.returns-in-Some-2
returns-in-Some-2 c = some_turned c.in_ok-made-2.field-0 c.in-Some-2.made c.args.from c.args.end c.args.f.now c.args.g.now c.in-Some-2.is c.in_ok-made-2.ensures

pub are_low_at_starts-requires : goal.are_low_at_starts-requires
are_low_at_starts-requires c = (c.args.end, first_operand c.args.from c.args.end c.args.f.now c.args.g.now c.requires)

pub are_low_at_starts-requires-2 : goal.are_low_at_starts-requires-2
are_low_at_starts-requires-2 c = (c.args.end, second_operand c.args.from c.args.end c.args.f.now c.args.g.now c.requires)
