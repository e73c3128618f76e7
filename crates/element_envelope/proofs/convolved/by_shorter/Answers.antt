use Rattle.element_envelope.proofs.CopyWindows.{swapped, ok_turned}
use Rattle.element_envelope.proofs.convolved.by_shorter.Goals as goal

pub by_copies-requires-2-clause-windows : goal.by_copies-requires-2-clause-windows
by_copies-requires-2-clause-windows c = swapped c.args.from c.args.end c.args.f.now c.args.g.now c.requires.windows

pub returns : goal.returns
returns c = ok_turned c.by_copies-2.result c.args.from c.args.end c.args.f.now c.args.g.now c.by_copies-2.ensures
