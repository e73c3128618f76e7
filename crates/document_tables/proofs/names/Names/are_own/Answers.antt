use Rattle.std.proofs.Common.{subst}
use Rattle.document_tables.specs.Names.{AreOwn}
use Rattle.document_tables.proofs.names.Names.are_own.Goals as goal

pub returns : goal.returns
returns c = subst AreOwn c.self.view_is c.self.invariant.own
