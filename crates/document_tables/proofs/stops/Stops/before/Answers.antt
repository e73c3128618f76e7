use Rattle.std.specs.Prelude.{nat_eq}
use Rattle.std.proofs.Common.{sym, ◌∙◌}
use Rattle.document_tables.proofs.StopSteps.{stop_there, no_stop_there}
use Rattle.document_tables.proofs.stops.Stops.before.Goals as goal

pub returns-in-Some : goal.returns-in-Some
returns-in-Some c =
    sym (stop_there (nat_eq c.args.port) c.args.self.now c.in-Some.place c.stop.result (sym c.place_of.ensures.value ∙ c.in-Some.is) c.stop.ensures)

pub returns-in-None : goal.returns-in-None
returns-in-None c = sym (no_stop_there (nat_eq c.args.port) c.args.self.now (sym c.place_of.ensures.value ∙ c.in-None.is))
