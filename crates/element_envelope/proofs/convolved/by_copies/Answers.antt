use Rattle.element_envelope.proofs.CopyWindows.{swapped, some_turned}
use Rattle.element_envelope.proofs.convolved.by_copies.Goals as goal

pub by_one_side-requires-2-clause-windows : goal.by_one_side-requires-2-clause-windows
by_one_side-requires-2-clause-windows c = swapped c.args.from c.args.end c.args.f.now c.args.g.now c.requires.windows

pub returns-in-Some-2 : goal.returns-in-Some-2
returns-in-Some-2 c = some_turned c.in_ok-made-2.field-0 c.in-Some-2.made c.args.from c.args.end c.args.f.now c.args.g.now c.in-Some-2.is c.in_ok-made-2.ensures
